-- The first line of bytes.
use Rattle.std.proofs.Common.{◌≡◌, ◌≢◌, ◌+◌, ◌<◌, ◌∙◌, ap, arith, sym, ℕ, zero, suc, List, [], ◌∷◌, ◌++◌, Some, None, length, take, drop, slice_index}
use Rattle.std.proofs.Common.{length-take-le, take-append-drop}
use Rattle.std.proofs.lemmas.Bool.{eqb-true, eq-eqb}
use Rattle.bstr.specs.Find.{IsFirstByte, is_byte}
use Rattle.bstr.specs.Text.{line_len, lines_of}
use Rattle.bstr.proofs.lemmas.LineLemmas.{line_len-at, line_len-bounds, line_len-none, lines-step}
use Rattle.gixobj_text.specs.FirstLines.{IsFirstLine}

pub line_len_at_newline : (bytes : List ℕ) (position : ℕ) → IsFirstByte (is_byte 10) bytes (Some position) → line_len bytes ≡ position + 1
line_len_at_newline bytes position (none, here) = line_len-at bytes position none.high (eqb-true (slice_index bytes position) 10 here)
    (λ k below is. none.before k (omega arith) below (eq-eqb (slice_index bytes k) 10 is))

pub line_len_of_newline_free : (bytes : List ℕ) → IsFirstByte (is_byte 10) bytes None → line_len bytes ≡ length bytes
line_len_of_newline_free bytes none = line_len-none bytes (λ k below is. none k (omega arith) below (eq-eqb (slice_index bytes k) 10 is))

-- the first byte is a newline
pub line_len_of_newline : (bytes : List ℕ) → 0 < length bytes → slice_index bytes 0 ≡ 10 → line_len bytes ≡ 1
line_len_of_newline bytes some here = line_len-at bytes 0 some here (λ k below is. absurd (omega (arith, below)))

no_newline_before_one : (bytes : List ℕ) → slice_index bytes 0 ≢ 10 → (k : ℕ) → k < 1 → slice_index bytes k ≢ 10
no_newline_before_one bytes other zero below = other
no_newline_before_one bytes other (suc k) below = absurd (omega (arith, below))

-- the second byte is a newline, and the first isn't
pub line_len_of_second_newline : (bytes : List ℕ) → 1 < length bytes → slice_index bytes 0 ≢ 10 → slice_index bytes 1 ≡ 10 → line_len bytes ≡ 2
line_len_of_second_newline bytes some other here = line_len-at bytes 1 some here (no_newline_before_one bytes other)

ne_nil_of_len_positive : (bytes : List ℕ) → 0 < length bytes → bytes ≢ []
ne_nil_of_len_positive [] some = absurd (omega arith)
ne_nil_of_len_positive (byte ∷ bytes) some = λ is. cc is

pub is_first_line_of_len : (bytes line rest : List ℕ) → 0 < length bytes → line ≡ take (line_len bytes) bytes → rest ≡ drop (line_len bytes) bytes
    → IsFirstLine bytes line rest
is_first_line_of_len bytes line rest some prefix after =
    let bounds = line_len-bounds bytes some in
    record {
      joined = sym (ap (λ (a : List ℕ). a ++ rest) prefix ∙ ap (λ (b : List ℕ). take (line_len bytes) bytes ++ b) after
          ∙ take-append-drop (line_len bytes) bytes);
      lines = lines-step bytes some
          ∙ sym (ap (λ (a : List ℕ). a ∷ lines_of rest) prefix ∙ ap (λ (b : List ℕ). take (line_len bytes) bytes ∷ lines_of b) after);
      some = ne_nil_of_len_positive line (let is : length line ≡ line_len bytes = ap length prefix
          ∙ length-take-le (line_len bytes) bytes bounds.1 in omega arith);
    }

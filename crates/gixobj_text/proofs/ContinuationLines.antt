-- Bytes begin with a continuation line only if they begin with white space.
use Rattle.std.proofs.Common.{◌≡◌, ◌<◌, ◌∙◌, ◌∷◌, ◌&&◌, ◌==◌, Bool, List, [], ap, arith, cond, false, not, refl, suc, take, drop, true, zero, ℕ}
use Rattle.std.proofs.lemmas.Bool.Decides.{nat_tests}
use Rattle.std.specs.Char.{is_ascii_whitespace}
use Rattle.std.specs.List.{take_while}
use Rattle.bstr.specs.Text.{line_len, lines_of}
use Rattle.bstr.proofs.lemmas.LineLemmas.{line_len-bounds, lines-step}
use Rattle.gixobj_text.specs.BodyLines.{begins_indented, is_blank, is_continuation_line, is_indented, without_last_byte}
use Rattle.gixobj_text.specs.Unfolding.{has_lines}
use Rattle.gixobj_text.proofs.TrailerDecoding.{no_continuation_lines_at_end, take_while_folded_cons}

non_whitespace_is_no_newline : (byte : ℕ) → is_ascii_whitespace byte ≡ false → (byte == 10) ≡ false
non_whitespace_is_no_newline byte is = grind (arith, nat_tests)

non_whitespace_is_no_return : (byte : ℕ) → is_ascii_whitespace byte ≡ false → (byte == 13) ≡ false
non_whitespace_is_no_return byte is = grind (arith, nat_tests)

without_last_byte_keeps_head : (last byte : ℕ) (rest : List ℕ) → (byte == last) ≡ false
    → (remaining : List ℕ) × (without_last_byte last (byte ∷ rest) ≡ byte ∷ remaining)
without_last_byte_keeps_head last byte [] other = ([], ap (λ (b : Bool). cond b [] (byte ∷ [])) other)
without_last_byte_keeps_head last byte (next ∷ rest) other = (without_last_byte last (next ∷ rest), refl)

not_indented_of_non_whitespace : (byte : ℕ) (rest : List ℕ) → is_ascii_whitespace byte ≡ false → is_indented (byte ∷ rest) ≡ false
not_indented_of_non_whitespace byte rest is =
    let inner = without_last_byte_keeps_head 10 byte rest (non_whitespace_is_no_newline byte is) in
    let outer = without_last_byte_keeps_head 13 byte inner.0 (non_whitespace_is_no_return byte is) in
    ap (λ (line : List ℕ). begins_indented (without_last_byte 13 line)) inner.1 ∙ ap begins_indented outer.1 ∙ is

not_and_false_of_right : (a b : Bool) → b ≡ false → (not a && b) ≡ false
not_and_false_of_right true b is = refl
not_and_false_of_right false b is = is

take_positive_cons : (count byte : ℕ) (rest : List ℕ) → 0 < count → (remaining : List ℕ) × (take count (byte ∷ rest) ≡ byte ∷ remaining)
take_positive_cons zero byte rest some = absurd (omega (arith, some))
take_positive_cons (suc count) byte rest some = (take count rest, refl)

first_line_is_no_continuation : (byte : ℕ) (rest : List ℕ) → is_ascii_whitespace byte ≡ false
    → is_continuation_line (take (line_len (byte ∷ rest)) (byte ∷ rest)) ≡ false
first_line_is_no_continuation byte rest is =
    let first = take_positive_cons (line_len (byte ∷ rest)) byte rest (line_len-bounds (byte ∷ rest) (omega arith)).0 in
    ap is_continuation_line first.1 ∙ not_and_false_of_right (is_blank (byte ∷ first.0)) (is_indented (byte ∷ first.0))
    (not_indented_of_non_whitespace byte first.0 is)

no_continuation_lines_of_non_whitespace : (byte : ℕ) (rest : List ℕ) → is_ascii_whitespace byte ≡ false
    → take_while is_continuation_line (lines_of (byte ∷ rest)) ≡ []
no_continuation_lines_of_non_whitespace byte rest is =
    ap (take_while is_continuation_line) (lines-step (byte ∷ rest) (omega arith))
    ∙ take_while_folded_cons false (take (line_len (byte ∷ rest)) (byte ∷ rest)) (lines_of (drop (line_len (byte ∷ rest)) (byte ∷ rest)))
    (first_line_is_no_continuation byte rest is)

pub first_line_not_folded : (bytes : List ℕ) → begins_indented bytes ≡ false → has_lines (take_while is_continuation_line (lines_of bytes)) ≡ false
first_line_not_folded [] is = ap has_lines (no_continuation_lines_at_end [] refl)
first_line_not_folded (byte ∷ rest) is = ap has_lines (no_continuation_lines_of_non_whitespace byte rest is)

-- The length of an encoded value: its bytes, one more for each line but the first, and a missing final newline.
use Rattle.std.proofs.Common.{◌≡◌, ◌+◌, ◌-◌, ◌<◌, ◌≤◌, ℕ, Bool, true, false, cond, eqb, get_or, List, [], ◌∷◌, ◌++◌, length, length-append, arith, refl, take}
use Rattle.std.proofs.Common.{sym, ap, ◌∙◌}
use Rattle.std.specs.Prelude.{◌==◌, not, if◌then◌else◌}
use mir.Val.{bool_byte}
use Rattle.std.specs.List.{flat_map}
use Rattle.std.proofs.lemmas.List.{take_all, take_more}
use Rattle.std.proofs.lemmas.List.Sums.{count_by-le-length, sum_by-append, sum_by-cons, sum_by_more}
use Rattle.gixobj_encode.specs.FieldWriting.{folded, newlines, value_lines}
use Rattle.gixobj_hash.specs.HeaderFormat.{encode_continuation}
use Rattle.gixobj_hash.specs.FieldFormat.{encode_line}

pub newlines_le_len : (content : List ℕ) → newlines content ≤ length content
newlines_le_len content = count_by-le-length (λ byte. byte == 10) content

pub newlines_append : (prefix rest : List ℕ) → newlines (prefix ++ rest) ≡ newlines prefix + newlines rest
newlines_append prefix rest = sum_by-append (λ (byte : ℕ). cond (byte == 10) 1 0) prefix rest

pub newlines_take_succ : (content : List ℕ) (i byte : ℕ) → i < length content → byte ≡ get_or content i byte
    → newlines (take (i + 1) content) ≡ newlines (take i content) + cond (byte == 10) 1 0
newlines_take_succ content i byte within is =
    sum_by_more (λ (it : ℕ). cond (it == 10) 1 0) content i byte within ∙ ap (λ (it : ℕ). newlines (take i content) + cond (it == 10) 1 0) (sym is)

newlines_cons : (byte : ℕ) (rest : List ℕ) → newlines (byte ∷ rest) ≡ cond (byte == 10) 1 0 + newlines rest
newlines_cons byte rest = sum_by-cons (λ (it : ℕ). cond (it == 10) 1 0) byte rest

-- the length of these lines, encoded
abbrev written_len : List ℕ × List (List ℕ) → ℕ
written_len lines = length (encode_line lines.0 ++ flat_map encode_continuation lines.1)

written_len_cons : (is_newline : Bool) (byte : ℕ) (lines : List ℕ × List (List ℕ))
    → written_len (if is_newline then ([], lines.0 ∷ lines.1) else (byte ∷ lines.0, lines.1)) ≡ 1 + cond is_newline 1 0 + written_len lines
written_len_cons true byte lines = omega arith
written_len_cons false byte lines = omega arith

written_len_of_last_byte : (is_newline : Bool) (byte : ℕ) → written_len (if is_newline then ([], []) else (byte ∷ [], [])) ≡ 1 + cond is_newline 0 1
written_len_of_last_byte true byte = refl
written_len_of_last_byte false byte = refl

folded_len_snoc : (before : List ℕ) (last : ℕ) → length (folded (before ++ last ∷ [])) ≡ length before + 1 + newlines before + cond (last == 10) 0 1
folded_len_snoc [] last = written_len_of_last_byte (last == 10) last
folded_len_snoc (byte ∷ []) last =
    omega (arith, written_len_cons (byte == 10) byte (value_lines (last ∷ [])), written_len_of_last_byte (last == 10) last, newlines_cons byte [])
folded_len_snoc (byte ∷ next ∷ rest) last =
    omega (
      arith,
      written_len_cons (byte == 10) byte (value_lines (next ∷ rest ++ last ∷ [])),
      folded_len_snoc (next ∷ rest) last,
      newlines_cons byte
          (next ∷ rest),
    )

bool_byte_of_not : (is : Bool) → bool_byte (not is) ≡ cond is 0 1
bool_byte_of_not true = refl
bool_byte_of_not false = refl

-- the length of an encoded value by the newlines before its last byte, and by that byte
pub folded_len_split : (value : List ℕ) → 1 ≤ length value
    → length (folded value) ≡ length value + (newlines (take (length value - 1) value) + bool_byte (not (eqb (get_or value (length value - 1) 0) 10)))
folded_len_split value some =
    let before = take (length value - 1) value in
    let last = get_or value (length value - 1) 0 in
    let split : value ≡ before ++ last ∷ [] = sym (take_all (length value - 1 + 1) value (omega arith)) ∙ take_more value (length value - 1) 0
    (omega arith) in
    omega (
      arith,
      ap (λ (it : List ℕ). length (folded it)) split,
      ap length split,
      length-append before (last ∷ []),
      folded_len_snoc before last,
      bool_byte_of_not
          (eqb last 10),
    )

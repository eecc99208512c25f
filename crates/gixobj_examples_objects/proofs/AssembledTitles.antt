-- An assembled message splits at the end of its title; the law `assembled_message_has_parts` uses it.
use Rattle.std.proofs.Common.{◌≡◌, ◌≢◌, ◌≤◌, ◌∙◌, ◌++◌, ◌∷◌, ℕ, [], List, Some, append_assoc, arith, length, refl, subst, sym, inl}
use Rattle.std.proofs.lemmas.List.Elements.{All-head, All-tail}
use Rattle.gix_object.specs.BodyLines.{without_last_byte}
use Rattle.gix_object.specs.ByteStrings.{IsByteFree}
use Rattle.gix_object.specs.Titles.{IsBreak, SplitsTitle, after_return, alone, IsSplitAtBreaks}
use Rattle.gix_object.specs.Trailers.{TrailerView}
use Rattle.gixobj_examples_objects.specs.Assembled.{IsTitleLine, assembled_message, described_body, described_message, trailer_body, trailer_lines}
use Rattle.gixobj_examples_objects.specs.Assembled.{trailer_section}

cons_injective : (x y : ℕ) (xs ys : List ℕ) → x ∷ xs ≡ y ∷ ys → xs ≡ ys
cons_injective x y xs ys same = cc same

head_injective : (x y : ℕ) (xs ys : List ℕ) → x ∷ xs ≡ y ∷ ys → x ≡ y
head_injective x y xs ys same = cc same

-- a newline comes after the line
line_le_newline : (line prefix rest tail : List ℕ) → IsByteFree 10 line → line ++ tail ≡ prefix ++ 10 ∷ rest → length line ≤ length prefix
line_le_newline [] prefix rest tail free same = omega arith
line_le_newline (x ∷ line) [] rest tail free same =
    absurd (All-head (λ (it : ℕ). it ≢ 10) x line free (head_injective x 10 (line ++ tail) rest same))
line_le_newline (x ∷ line) (p ∷ prefix) rest tail free same =
    let less = line_le_newline line prefix rest tail (All-tail (λ (it : ℕ). it ≢ 10) x line free)
    (cons_injective x p (line ++ tail) (prefix ++ 10 ∷ rest) same) in
    omega (arith, less)

-- a line that ends in a carriage return isn't without it
no_final_return : (x : ℕ) → without_last_byte 13 (x ∷ []) ≡ x ∷ [] → x ≡ 13 → ⊥
no_final_return x no_return is =
    let one : without_last_byte 13 (13 ∷ []) ≡ 13 ∷ [] = subst (λ (b : ℕ). without_last_byte 13 (b ∷ []) ≡ b ∷ []) is no_return in cc one

-- a carriage return and a newline come after the line
line_le_return : (line prefix rest tail : List ℕ) → IsByteFree 10 line → without_last_byte 13 line ≡ line
    → line ++ tail ≡ prefix ++ 13 ∷ 10 ∷ rest → length line ≤ length prefix
line_le_return [] prefix rest tail free no_return same = omega arith
line_le_return (x ∷ []) [] rest tail free no_return same = absurd (no_final_return x no_return (head_injective x 13 tail (10 ∷ rest) same))
line_le_return (x ∷ y ∷ line) [] rest tail free no_return same =
    let second = head_injective y 10 (line ++ tail) rest (cons_injective x 13 (y ∷ (line ++ tail)) (10 ∷ rest) same) in
    absurd (All-head (λ (it : ℕ). it ≢ 10) y line (All-tail (λ (it : ℕ). it ≢ 10) x (y ∷ line) free) second)
line_le_return (x ∷ []) (p ∷ prefix) rest tail free no_return same = omega arith
line_le_return (x ∷ y ∷ line) (p ∷ prefix) rest tail free no_return same =
    let less = line_le_return (y ∷ line) prefix rest tail (All-tail (λ (it : ℕ). it ≢ 10) x (y ∷ line) free)
    (cons_injective x x (without_last_byte 13 (y ∷ line)) (y ∷ line) no_return)
    (cons_injective x p (y ∷ (line ++ tail)) (prefix ++ 13 ∷ 10 ∷ rest) same) in
    omega (arith, less)

breaks_append : (prefix first second rest : List ℕ) → prefix ++ first ++ second ++ rest ≡ prefix ++ (first ++ (second ++ rest))
breaks_append prefix first second rest = simp append_assoc

title_le_breaks : (title tail prefix rest first second : List ℕ) → IsTitleLine title → IsBreak first → IsBreak second
    → title ++ tail ≡ prefix ++ first ++ second ++ rest → length title ≤ length prefix
title_le_breaks title tail prefix rest first second is alone break same =
    line_le_newline title prefix (second ++ rest) tail is.one_line (same ∙ breaks_append prefix first second rest)
title_le_breaks title tail prefix rest first second is after_return break same =
    line_le_return title prefix (second ++ rest) tail is.one_line is.no_return (same ∙ breaks_append prefix first second rest)

lines_not_nil : (trailers : List TrailerView) → trailers ≢ [] → trailer_lines trailers ≢ []
lines_not_nil [] some none = some refl
lines_not_nil (trailer ∷ trailers) some none = absurd (not_nil trailer.token trailer.value (trailer_lines trailers) none)
  where
    not_nil : (token value rest : List ℕ) → ((token ++ 58 ∷ 32 ∷ value) ++ 10 ∷ []) ++ rest ≡ [] → ⊥
    not_nil [] value rest none = cc none
    not_nil (byte ∷ token) value rest none = cc none

-- a title of one line ends at the empty line after it
split_of_title : (title body : List ℕ) → IsTitleLine title → IsSplitAtBreaks (title ++ 10 ∷ 10 ∷ body) title body
split_of_title title body is = record {
  here = record {
    first = 10 ∷ [];
    second = 10 ∷ [];
    breaks = (alone, alone);
    joined = sym (breaks_append title (10 ∷ []) (10 ∷ []) body);
  };
  minimum = λ prefix rest has. title_le_breaks title (10 ∷ 10 ∷ body) prefix rest has.first has.second is has.breaks.0 has.breaks.1 has.joined;
}

append_not_nil : (xs : List ℕ) (y : ℕ) (ys : List ℕ) → xs ++ y ∷ ys ≢ []
append_not_nil [] y ys none = cc none
append_not_nil (x ∷ xs) y ys none = cc none

pub title_of_described_message : (title description : List ℕ) (trailers : List TrailerView) → IsTitleLine title
    → SplitsTitle (described_message title description trailers) title (Some (described_body description trailers))
title_of_described_message title description trailers is =
    (split_of_title title (described_body description trailers) is, append_not_nil description 10 (trailer_section trailers))

pub title_of_assembled : (title : List ℕ) (trailers : List TrailerView) → IsTitleLine title
    → SplitsTitle (assembled_message title trailers) title (trailer_body trailers)
title_of_assembled title [] is = inl (split_of_title title (trailer_lines []) is)
title_of_assembled title (trailer ∷ trailers) is =
    (split_of_title title (trailer_lines (trailer ∷ trailers)) is, lines_not_nil (trailer ∷ trailers) (λ none. cc none))

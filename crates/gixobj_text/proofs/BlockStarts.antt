-- The trailer block of a body starts within the body.
use Rattle.std.proofs.Common.{◌≡◌, inl, inr, ◌≤◌, ◌+◌, ◌++◌, ◌∷◌, ◌∙◌, ◌==◌, ap, arith, refl, ℕ, Bool, true, false, cond, List, [], length, length-append}
use Rattle.std.proofs.lemmas.List.Folds.{concat-append}
use Rattle.std.specs.List.{concat}
use Rattle.bstr.specs.Text.{lines_of}
use Rattle.bstr.proofs.lemmas.RestLemmas.{concat-lines_of}
use Rattle.gixobj_text.specs.BodyLines.{trimmed_line, without_last_byte}
use Rattle.gixobj_text.specs.TrailerBlocks.{IsTrailerBlockStart, StartsAfter}

abbrev Lines : Type 0
Lines = List (List ℕ)

cond_singleton_len_le_one : (b : Bool) (byte : ℕ) → length (cond b [] (byte ∷ [])) ≤ 1
cond_singleton_len_le_one true byte = omega arith
cond_singleton_len_le_one false byte = omega arith

without_last_byte_len_le : (last : ℕ) (bytes : List ℕ) → length (without_last_byte last bytes) ≤ length bytes
without_last_byte_len_le last [] = omega arith
without_last_byte_len_le last (byte ∷ []) = cond_singleton_len_le_one (byte == last) byte
without_last_byte_len_le last (byte ∷ next ∷ rest) = let later : length (without_last_byte last (next ∷ rest)) ≤ length (next ∷ rest) =
    without_last_byte_len_le last (next ∷ rest) in omega arith

trimmed_line_len_le : (line : List ℕ) → length (trimmed_line line) ≤ length line
trimmed_line_len_le line =
    let first : length (without_last_byte 10 line) ≤ length line = without_last_byte_len_le 10 line in
    let second : length (without_last_byte 13 (without_last_byte 10 line)) ≤ length (without_last_byte 10 line) =
    without_last_byte_len_le 13 (without_last_byte 10 line) in
    omega arith

prefix_and_line_len_le_concat : (prefix : Lines) (line blank : List ℕ) → length (concat prefix) + length line ≤ length (concat (prefix ++ line ∷ blank ∷ []))
prefix_and_line_len_le_concat prefix line blank =
    let joined : length (concat (prefix ++ line ∷ blank ∷ [])) ≡ length (concat prefix ++ (line ++ (blank ++ []))) =
    ap length (concat-append prefix (line ∷ blank ∷ [])) in
    let first : length (concat prefix ++ (line ++ (blank ++ []))) ≡ length (concat prefix) + length (line ++ (blank ++ [])) =
    length-append (concat prefix) (line ++ (blank ++ [])) in
    let second : length (line ++ (blank ++ [])) ≡ length line + length (blank ++ []) = length-append line (blank ++ []) in
    omega arith

starts_after_le_concat_len : (before : Lines) (start : ℕ) → StartsAfter before start → start ≤ length (concat before)
starts_after_le_concat_len before start (inl (none, is)) = omega arith
starts_after_le_concat_len before start (inr (inl (blank, one, is))) = omega arith
starts_after_le_concat_len before start (inr (inr (prefix, line, blank, joined, is))) =
    let fits : length (trimmed_line line) ≤ length line = trimmed_line_len_le line in
    let all : length (concat prefix) + length line ≤ length (concat (prefix ++ line ∷ blank ∷ [])) = prefix_and_line_len_le_concat prefix line blank in
    let same : length (concat before) ≡ length (concat (prefix ++ line ∷ blank ∷ [])) = ap (λ (ls : Lines). length (concat ls)) joined in
    omega arith

concat_prefix_len_le : (lines before following : Lines) → lines ≡ before ++ following → length (concat before) ≤ length (concat lines)
concat_prefix_len_le lines before following joined =
    let is : length (concat lines) ≡ length (concat before ++ concat following) = ap (λ (ls : Lines). length (concat ls)) joined
    ∙ ap length (concat-append before following) in
    let sum : length (concat before ++ concat following) ≡ length (concat before) + length (concat following) =
    length-append (concat before) (concat following) in
    omega arith

pub block_start_le_len : (body : List ℕ) (start : ℕ) → IsTrailerBlockStart body start → start ≤ length body
block_start_le_len body start (inl block) =
    let first : start ≤ length (concat block.before) = starts_after_le_concat_len block.before start block.starts in
    let one : length (concat (block.before ++ block.run)) ≤ length (concat (lines_of body)) =
    concat_prefix_len_le (lines_of body) (block.before ++ block.run) block.after block.last.joined in
    let two : length (concat block.before) ≤ length (concat (block.before ++ block.run)) =
    concat_prefix_len_le (block.before ++ block.run) block.before block.run refl in
    let all : length (concat (lines_of body)) ≡ length body = ap length (concat-lines_of body) in
    omega arith
block_start_le_len body start (inr (none, is)) = omega arith

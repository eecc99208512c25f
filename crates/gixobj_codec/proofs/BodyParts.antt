-- The messages of a body and their trailers append to the body.
use Rattle.std.proofs.Common.{◌++◌, ◌∙◌, ◌∷◌, ◌≡◌, List, [], ap, append_assoc, drop, refl, sym, take, ℕ}
use lib.ListN.{take-append-drop}
use Rattle.std.specs.List.{concat}
use Rattle.bstr.specs.Text.{lines_of}
use Rattle.bstr.proofs.lemmas.RestLemmas.{concat-lines_of}
use Rattle.gixobj_text.specs.MessageBlocks.{AreBlocksFrom, BlockView, joined_parts}
use Rattle.gixobj_text.specs.MessageBlocks.AreBlocksFrom.{block, none}

concat_append : (a b : List (List ℕ)) → concat (a ++ b) ≡ concat a ++ concat b
concat_append [] b = refl
concat_append (line ∷ a) b = ap (λ (bytes : List ℕ). line ++ bytes) (concat_append a b) ∙ sym (append_assoc line (concat a) (concat b))

concat_append_append : (a b c : List (List ℕ)) → concat ((a ++ b) ++ c) ≡ concat a ++ (concat b ++ concat c)
concat_append_append a b c =
    concat_append (a ++ b) c ∙ ap (λ (bytes : List ℕ). bytes ++ concat c) (concat_append a b) ∙ append_assoc (concat a) (concat b) (concat c)

-- the parts of the blocks of bytes append to these bytes
pub joined_parts_of_bytes : (start : ℕ) (content : List ℕ) (blocks : List BlockView) → AreBlocksFrom start content blocks → joined_parts blocks ≡ content
joined_parts_of_bytes start content blocks (none _) = refl
joined_parts_of_bytes start content blocks (block _ _ one rest later it more) =
    ap (λ (bytes : List ℕ). bytes ++ (one.trailers ++ joined_parts later)) it.message
    ∙ append_assoc (take start content) (concat it.skipped) (one.trailers ++ joined_parts later)
    ∙ ap (λ (bytes : List ℕ). take start content ++ (concat it.skipped ++ (bytes ++ joined_parts later))) it.trailers
    ∙ ap (λ (bytes : List ℕ). take start content ++ (concat it.skipped ++ (concat it.consumed ++ bytes)))
    (joined_parts_of_bytes 0 rest later more ∙ sym (concat-lines_of rest))
    ∙ ap (λ (bytes : List ℕ). take start content ++ bytes) (sym (ap concat it.lines.split ∙ concat_append_append it.skipped it.consumed (lines_of rest))
    ∙ concat-lines_of (drop start content))
    ∙ take-append-drop start content

use Rattle.std.proofs.Common.{◌≡◌, ◌∷◌, length}
use Rattle.gixobj_text.specs.SummaryPieces.{summary_of_rest}
use Rattle.gixobj_text.specs.Titles.{pieces_of, summary_of_pieces}
use Rattle.gixobj_text.proofs.commit.message.summary.joined_lines.Given as goal

-- the summary so far, continued with the remaining pieces, is the summary of all pieces
abbrev pub invariant-pieces : goal.invariant-pieces
invariant-pieces l = summary_of_rest l.value.items (pieces_of l.remaining) ≡ summary_of_pieces (l.fn.first ∷ pieces_of l.fn.rest)

abbrev pub decreases-pieces : goal.decreases-pieces
decreases-pieces l = length l.remaining

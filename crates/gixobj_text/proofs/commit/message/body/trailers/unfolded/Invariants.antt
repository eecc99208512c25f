use Rattle.std.proofs.Common.{◌≡◌, [], length}
use Rattle.bstr.specs.Text.{lines_of}
use Rattle.gixobj_hash.specs.ByteStrings.{trimmed}
use Rattle.gixobj_text.specs.Unfolding.{with_folded, with_piece}
use Rattle.gixobj_text.proofs.commit.message.body.trailers.unfolded.Given as goal

-- the value so far, with the continuation lines of the rest, is the unfolded value
abbrev pub invariant-lines : goal.invariant-lines
invariant-lines l = with_folded l.value.items (lines_of l.pending) ≡ with_folded (with_piece [] (trimmed l.fn.first)) (lines_of l.fn.rest)

abbrev pub decreases-lines : goal.decreases-lines
decreases-lines l = length l.pending

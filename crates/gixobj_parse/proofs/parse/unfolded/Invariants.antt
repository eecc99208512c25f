use Rattle.std.proofs.Common.{length}
use Rattle.gixobj_parse.proofs.HeaderFields.{Unfolding}
use Rattle.gixobj_parse.proofs.parse.unfolded.Given as goal

abbrev pub invariant-loop-following : goal.invariant-loop-following
invariant-loop-following l = Unfolding l.first l.fn.input l.value.items l.rest

abbrev pub decreases-loop-following : goal.decreases-loop-following
decreases-loop-following l = length l.rest

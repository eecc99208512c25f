use Rattle.std.proofs.Common.{length}
use Rattle.gixobj_text.specs.LineSteps.{NoTrailer, HasConsumedAll}
use Rattle.gixobj_text.proofs.commit.message.body.blocks.at_trailer.Given as goal

-- no line before the rest is a trailer line
abbrev pub invariant-lines : goal.invariant-lines
invariant-lines l = HasConsumedAll NoTrailer l.fn.content l.rest

abbrev pub decreases-lines : goal.decreases-lines
decreases-lines l = length l.rest

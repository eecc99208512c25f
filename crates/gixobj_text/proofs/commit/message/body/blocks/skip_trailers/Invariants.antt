use Rattle.std.proofs.Common.{length}
use Rattle.gixobj_text.specs.LineSteps.{ContinuesTrailer, HasConsumedAll}
use Rattle.gixobj_text.proofs.commit.message.body.blocks.skip_trailers.Given as goal

-- each line before the rest is a trailer line or a continuation line
abbrev pub invariant-lines : goal.invariant-lines
invariant-lines l = HasConsumedAll ContinuesTrailer l.fn.content l.rest

abbrev pub decreases-lines : goal.decreases-lines
decreases-lines l = length l.rest

use Rattle.std.proofs.Common.{length}
use Rattle.gixobj_grammar.proofs.SkippedLines.{HasConsumedLines}
use Rattle.gixobj_grammar.proofs.lines.after_continuations.Given as goal

abbrev pub invariant-loop-following : goal.invariant-loop-following
invariant-loop-following l = HasConsumedLines l.fn.input l.rest

abbrev pub decreases-loop-following : goal.decreases-loop-following
decreases-loop-following l = length l.rest

use Rattle.std.proofs.Common.{◌+◌, length}
use Rattle.gixobj_walks_marks.specs.Spreading.{unmarked}
use Rattle.gixobj_walks_marks.proofs.Spread.{IsSpreading}
use Rattle.gixobj_walks_marks.proofs.marking.mark_reached.Given as goal

abbrev pub invariant-loop-number : goal.invariant-loop-number
invariant-loop-number l = IsSpreading l.nodes l.fn.marked l.from l.marked l.stack.items

abbrev pub decreases-loop-number : goal.decreases-loop-number
decreases-loop-number l = unmarked l.marked + length l.stack.items

use Rattle.std.proofs.Common.{take}
use Rattle.gixobj_walks_marks.specs.Spreading.{Spreads}
use Rattle.gixobj_walks_marks.proofs.marking.mark_each.Given as goal

abbrev pub invariant-loop-number : goal.invariant-loop-number
invariant-loop-number l = Spreads (take l.number-index l.numbers) l.initial.marked l.marked l.initial.stack.items
    l.stack.items

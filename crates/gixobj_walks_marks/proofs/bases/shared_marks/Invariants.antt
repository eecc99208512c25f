use Rattle.gixobj_walks_marks.specs.Chosen.{IsShared, MarksBelow}
use Rattle.gixobj_walks_marks.proofs.bases.shared_marks.Given as goal

abbrev pub invariant-loop-number : goal.invariant-loop-number
invariant-loop-number l = MarksBelow (IsShared l.left l.right) l.number l.shared.items

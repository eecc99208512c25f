use Rattle.gixobj_walks_marks.specs.Chosen.{IsBottomAt, ListsBelow}
use Rattle.gixobj_walks_marks.proofs.chosen.bottoms.Given as goal

abbrev pub invariant-loop-number : goal.invariant-loop-number
invariant-loop-number l = ListsBelow (IsBottomAt l.nodes l.left l.right) l.number l.found.items

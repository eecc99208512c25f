use Rattle.gixobj_walks_marks.specs.Chosen.{IsChosen, ListsBelow}
use Rattle.gixobj_walks_marks.proofs.bases.list_chosen.Given as goal

abbrev pub invariant-loop-number : goal.invariant-loop-number
invariant-loop-number l = ListsBelow (IsChosen l.left l.right) l.number l.found.items

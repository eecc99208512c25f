use Rattle.gixobj_walks_marks.specs.Chosen.{IsChosen, MarksBelow}
use Rattle.gixobj_walks_marks.proofs.bases.chosen_marks.Given as goal

abbrev pub invariant-loop-number : goal.invariant-loop-number
invariant-loop-number l = MarksBelow (IsChosen l.left l.right) l.number l.chosen.items

use Rattle.gixobj_walks_marks.specs.Chosen.{AddsMarks, HasMarkedChild}
use Rattle.gixobj_walks_marks.proofs.bases.mark_parents_of_all.Given as goal

abbrev pub invariant-loop-number : goal.invariant-loop-number
invariant-loop-number l = AddsMarks (HasMarkedChild l.nodes l.side l.number) l.initial.marked.items l.marked.items

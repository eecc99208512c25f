use Rattle.std.proofs.Common.{Contains, take}
use Rattle.gixobj_walks_marks.specs.Chosen.{AddsMarks}
use Rattle.gixobj_walks_marks.proofs.bases.mark_numbers.Given as goal

abbrev pub invariant-loop-number : goal.invariant-loop-number
invariant-loop-number l = AddsMarks (Contains (take l.number-index l.numbers)) l.initial.marked.items l.marked.items

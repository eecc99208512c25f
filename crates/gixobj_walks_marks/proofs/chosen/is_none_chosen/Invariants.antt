use Rattle.std.proofs.Common.{ℕ, Contains, take}
use Rattle.gixobj_walks_marks.specs.Chosen.{IsChosen}
use Rattle.gixobj_walks_marks.proofs.chosen.is_none_chosen.Given as goal

abbrev pub invariant-loop-number : goal.invariant-loop-number
invariant-loop-number l = (k : ℕ) → Contains (take l.number-index l.numbers) k → ¬ IsChosen l.left l.right k

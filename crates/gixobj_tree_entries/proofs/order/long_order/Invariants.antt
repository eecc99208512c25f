-- The bytes before `at` are equal.
use Rattle.std.proofs.Common.{◌≡◌, ◌-◌, length, take}
use Rattle.gixobj_tree_entries.proofs.order.long_order.Given as goal

abbrev pub invariant-loop-at : goal.invariant-loop-at
invariant-loop-at l = take l.at l.left ≡ take l.at l.right

abbrev pub decreases-loop-at : goal.decreases-loop-at
decreases-loop-at l = length l.left - l.at

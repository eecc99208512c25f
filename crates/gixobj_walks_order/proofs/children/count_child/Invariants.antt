use Rattle.std.proofs.Common.{◌≡◌, ◌+◌, ◌<◌, ℕ, cond, take, length, nat_eq, slice_index}
use Rattle.gixobj_walks_order.specs.Counts.{AreBelow, is_named}
use Rattle.gixobj_walks_order.proofs.children.count_child.Given as goal

abbrev pub invariant-loop-parent : goal.invariant-loop-parent
invariant-loop-parent l = record {
  counted : (number : ℕ) → number < length l.initial.counts → slice_index l.counts number
      ≡ slice_index l.initial.counts number + cond (is_named number (take l.parent-index l.parents)) 1 0;
  stamped : (number : ℕ) → number < length l.initial.counts
      → nat_eq (slice_index l.stamps number) l.stamp ≡ is_named number (take l.parent-index l.parents);
  seen : AreBelow (l.stamp + 1) l.stamps;
}

use Rattle.std.proofs.Common.{◌≡◌, ◌+◌, ◌<◌, ◌≤◌, ℕ, cond, drop, length, nat_eq, reverse, slice_index}
use Rattle.gixobj_walks_order.specs.Counts.{AreBelow, freed_parents, is_named}
use Rattle.gixobj_walks_order.proofs.children.release_parents.Given as goal

abbrev pub invariant-loop-left : goal.invariant-loop-left
invariant-loop-left l = record {
  within : l.left ≤ length l.parents;
  counted : (number : ℕ) → number < length l.initial.counts → slice_index l.counts number
      + cond (is_named number (drop l.left l.parents)) 1 0 ≡ slice_index l.initial.counts number;
  stamped : (number : ℕ) → number < length l.initial.counts
      → nat_eq (slice_index l.stamps number) l.stamp ≡ is_named number (drop l.left l.parents);
  seen : AreBelow (l.stamp + 1) l.stamps;
  ready : l.ready.items ≡ reverse (freed_parents l.selected l.initial.counts (drop l.left l.parents));
}

abbrev pub decreases-loop-left : goal.decreases-loop-left
decreases-loop-left l = l.left

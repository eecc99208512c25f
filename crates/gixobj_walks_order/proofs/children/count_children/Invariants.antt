use Rattle.std.proofs.Common.{◌≡◌, ◌+◌, ◌<◌, ℕ, length, slice_index}
use Rattle.gixobj_walks_order.specs.Counts.{AreBelow, pending_children}
use Rattle.gixobj_walks_order.proofs.children.count_children.Given as goal

abbrev pub invariant-loop-number : goal.invariant-loop-number
invariant-loop-number l = record {
  counts_len : length l.counts.items ≡ length l.nodes;
  stamps_len : length l.stamps.items ≡ length l.nodes;
  counted : (parent : ℕ) → parent < length l.nodes
      → slice_index l.counts.items parent ≡ pending_children l.nodes l.pending parent l.number;
  seen : AreBelow (l.number + 1) l.stamps.items;
  small : AreBelow (l.number + 1) l.counts.items;
}

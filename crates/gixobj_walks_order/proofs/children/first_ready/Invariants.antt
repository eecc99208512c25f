use Rattle.std.proofs.Common.{◌≡◌, ◌<◌, ◌++◌, ℕ, [], drop, take, length, false, reverse, slice_index_or}
use Rattle.gixobj_walks_order.specs.Counts.{first_tips, is_named}
use Rattle.gixobj_walks_order.proofs.children.first_ready.Given as goal

abbrev pub invariant-loop-tip : goal.invariant-loop-tip
invariant-loop-tip l = record {
  len : length l.seen.items ≡ length l.counts;
  seen : (number : ℕ) → number < length l.counts
      → slice_index_or l.seen.items number false ≡ is_named number (reverse (take l.tip-index l.tips));
  ready : l.ready.items ++ first_tips l.selected l.counts (reverse (take l.tip-index l.tips)) (drop l.tip-index l.tips)
      ≡ first_tips l.selected l.counts [] l.tips;
}

use Rattle.std.proofs.Common.{◌≡◌, ◌≤◌, drop, length}
use Rattle.gixobj_walks_graph.specs.Numbered.{IsClosed}
use Rattle.gixobj_walks_marks.specs.Marks.{HasMarks}
use Rattle.gixobj_walks_marks.proofs.reached.reachable.Given as goal

-- the starts from the index on are marked, and what they reach
abbrev pub invariant-loop-index : goal.invariant-loop-index
invariant-loop-index l = record {
  lengths : length l.marks.items ≡ length l.nodes;
  closed : IsClosed l.nodes l.marks.items;
  marked : HasMarks l.nodes (drop l.index l.starts) l.marks.items;
  within : l.index ≤ length l.starts;
}

abbrev pub decreases-loop-index : goal.decreases-loop-index
decreases-loop-index l = l.index

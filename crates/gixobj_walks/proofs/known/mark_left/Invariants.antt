use Rattle.std.proofs.Common.{◌≡◌, ◌≤◌, drop, length}
use Rattle.gixobj_walks_marks.specs.Marks.{HasMarks}
use Rattle.gixobj_walks.proofs.known.mark_left.Given as goal

-- the starts from the index on are marked
abbrev pub invariant-loop-index : goal.invariant-loop-index
invariant-loop-index l = record {
  nodes : l.reading.nodes ≡ l.fn.reading.nodes;
  marked : HasMarks l.reading.nodes (drop l.index l.starts) l.reading.left;
  other : l.reading.right ≡ l.fn.reading.right;
  within : l.index ≤ length l.starts;
}

abbrev pub decreases-loop-index : goal.decreases-loop-index
decreases-loop-index l = l.index

use Rattle.std.proofs.Common.{◌≡◌, ◌++◌, None, replicate}
use Rattle.gixobj_walks_marks.specs.Readings.{KeepsMarks}
use Rattle.gixobj_walks.proofs.known.unread.Given as goal

-- as many commits are added as the loop has run
abbrev pub invariant-loop : goal.invariant-loop
invariant-loop l = record {
  nodes : l.reading.nodes ≡ l.fn.reading.nodes ++ replicate l.counter None;
  left : KeepsMarks l.fn.reading.nodes l.fn.reading.left l.reading.nodes l.reading.left;
  right : KeepsMarks l.fn.reading.nodes l.fn.reading.right l.reading.nodes l.reading.right;
}

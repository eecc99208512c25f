use Rattle.std.proofs.Common.{ℕ, Contains, take}
use Rattle.gixobj_walks_graph.specs.Graph.{IsRead}
use Rattle.gixobj_walks_graph.specs.Numbered.{graph_at}
use Rattle.gixobj_walks_marks.proofs.settled_bases.are_read.Given as goal

abbrev pub invariant-loop-number : goal.invariant-loop-number
invariant-loop-number l = (k : ℕ) → Contains (take l.number-index l.numbers) k → IsRead (graph_at l.nodes) k

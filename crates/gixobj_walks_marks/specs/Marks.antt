-- Marks of commits: which of them some starts reach.
use Rattle.std.specs.Prelude.{◌↔◌, ℕ, Bool, List}
use Rattle.gixobj_walks_graph.specs.Graph.{IsReachedFrom}
use Rattle.gixobj_walks_graph.specs.Numbered.{IsMarked, Nodes, graph_at}

-- exactly the commits that the starts reach are marked, so each start is a known commit
abbrev pub HasMarks : Nodes → List ℕ → List Bool → Type 0
HasMarks nodes starts marked = (number : ℕ) → IsMarked marked number ↔ IsReachedFrom (graph_at nodes) starts number

-- Graphs whose commits are numbered: the commit of a number is at this position of a list, or is not read.
use Rattle.std.specs.Prelude.{◌≡◌, ◌<◌, ℕ, Bool, true, List, [], Option, Some, None, length, slice_get}
use Rattle.std.specs.List.{AllByRecursion}
use Rattle.gixobj_walks_graph.specs.Graph.{Graph, NodeView}

-- the commits that are known, each read or not
abbrev pub Nodes : Type 0
Nodes = List (Option (NodeView ℕ))

-- the graph of the commits that are read
abbrev pub graph_at : Nodes → Graph ℕ
graph_at nodes number node = slice_get nodes number ≡ Some (Some node)

-- the parents of a commit that is read, and none of another
abbrev pub parents_in : Option (Option (NodeView ℕ)) → List ℕ
parents_in None = []
parents_in (Some None) = []
parents_in (Some (Some node)) = node.parents

-- the parents of a commit, none if it isn't read
abbrev pub parents_at : Nodes → ℕ → List ℕ
parents_at nodes number = parents_in (slice_get nodes number)

-- the number is marked
abbrev pub IsMarked : List Bool → ℕ → Type 0
IsMarked marked number = slice_get marked number ≡ Some true

-- each parent of a commit that is read is known
abbrev pub AreParentsKnown : Nodes → Type 0
AreParentsKnown nodes = (number : ℕ) (node : NodeView ℕ) → graph_at nodes number node
    → AllByRecursion (λ parent. parent < length nodes) node.parents

-- each parent of a marked commit that is read is marked
abbrev pub IsClosed : Nodes → List Bool → Type 0
IsClosed nodes marked = (number : ℕ) (node : NodeView ℕ) → graph_at nodes number node → IsMarked marked number
    → AllByRecursion (IsMarked marked) node.parents

-- Graphs whose numbered commits have names: the ids of the commits.
use Rattle.std.specs.Prelude.{◌≡◌, ◌⊎◌, ◌++◌, ℕ, List, Option, Some, Contains, slice_get}
use Rattle.std.specs.List.{AllZip}
use Rattle.gixobj_walks_graph.specs.Graph.{Graph, NodeView}
use Rattle.gixobj_walks_graph.specs.Numbered.{Nodes, graph_at}

-- the number has this name
abbrev pub Names : {V : Type 0} → List V → ℕ → V → Type 0
Names ids number id = slice_get ids number ≡ Some id

-- the name is that of a commit that is read, and these are its parents' names and its seconds
pub record IsNamedNode {V : Type 0} (ids : List V) (nodes : Nodes) (id : V) (node : NodeView V) : Type 0 where
  pub number : ℕ
  pub numbered : NodeView ℕ
  pub name : Names ids number id
  pub read : graph_at nodes number numbered
  pub parents : AllZip (Names ids) numbered.parents node.parents
  pub seconds : node.seconds ≡ numbered.seconds

-- the graph of the commits that are read, by their names
abbrev pub named_graph : {V : Type 0} → List V → Nodes → Graph V
named_graph ids nodes id node = IsNamedNode ids nodes id node

-- each number has a name of its own
abbrev pub AreDistinct : {V : Type 0} → List V → Type 0
AreDistinct {V} ids = (number other : ℕ) (id : V) → Names ids number id → Names ids other id → number ≡ other

-- no number has this name
abbrev pub IsUnnamed : {V : Type 0} → List V → V → Type 0
IsUnnamed ids id = (number : ℕ) → ¬ Names ids number id

-- each name keeps its number, and more may follow
abbrev pub Extends : {V : Type 0} → List V → List V → Type 0
Extends {V} old new = (more : List V) × (new ≡ old ++ more)

-- each of these names is one of the first list, or of the second
abbrev pub AreOfEither : {V : Type 0} → List V → List V → List V → Type 0
AreOfEither {V} ids first second = (id : V) → Contains ids id → Contains first id ⊎ Contains second id

-- the graph of the commits that a function has for their names
abbrev pub graph_of : {V : Type 0} → (V → Option (NodeView V)) → Graph V
graph_of commits id node = commits id ≡ Some node

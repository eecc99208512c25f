-- Which commits of a numbered graph can be listed.
use Rattle.std.specs.Prelude.{◌⊎◌, ℕ, Bool, List, Contains}
use Rattle.gixobj_walks_graph.specs.Graph.{Graph, HasAncestor, HasParent, IsRead}
use Rattle.gixobj_walks_graph.specs.Numbered.{IsMarked, Nodes, graph_at}
use Rattle.gixobj_walks_order.specs.declared.error.ListError.{ListError}
use Rattle.gixobj_walks_order.specs.declared.error.ListError.TheVariants.{Cycle, OutOfMemory}

-- each marked commit is read
abbrev pub AreMarkedRead : Nodes → List Bool → Type 0
AreMarkedRead nodes marked = (number : ℕ) → IsMarked marked number → IsRead (graph_at nodes) number

-- a selected commit that has the other one as a parent
pub record HasSelectedChild (nodes : Nodes) (selected : List Bool) (number : ℕ) : Type 0 where
  pub child : ℕ
  pub chosen : IsMarked selected child
  pub parent : HasParent (graph_at nodes) child number

-- each selected commit is a tip, or a parent of a selected one
abbrev pub AreReached : Nodes → List Bool → List ℕ → Type 0
AreReached nodes selected tips = (number : ℕ) → IsMarked selected number
    → Contains tips number ⊎ HasSelectedChild nodes selected number

-- the graph of these commits alone
abbrev pub graph_within : {V : Type 0} → Graph V → (V → Type 0) → Graph V
graph_within G Selected id node = Selected id × G id node

-- a commit that is an ancestor of itself, by way of these commits alone
pub record IsCycle {V : Type 0} (G : Graph V) (Selected : V → Type 0) : Type 0 where
  pub id : V
  pub selected : Selected id
  pub ancestor : HasAncestor (graph_within G Selected) id id

-- when no list is made: a cycle is found, or memory ran out where a commit is selected
abbrev pub IsListError : Nodes → List Bool → ListError → Type 0
IsListError nodes selected Cycle = IsCycle (graph_at nodes) (IsMarked selected)
IsListError nodes selected OutOfMemory = (number : ℕ) × IsMarked selected number

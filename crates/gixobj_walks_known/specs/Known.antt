-- Graphs that are known.
use Rattle.std.specs.Prelude.{◌≡◌, ◌<◌, ℕ, List, Option, Some, length}
use Rattle.std.specs.List.{AllByRecursion}
use Rattle.gixobj_walks_graph.specs.Graph.{IsRead, NodeView}
use Rattle.gixobj_walks_graph.specs.Numbered.{AreParentsKnown, Nodes, graph_at}
use Rattle.gixobj_walks_graph.specs.Walks.{IsSelected}
use Rattle.gixobj_walks_order.specs.Listed.{IsCycle}
use Rattle.gixobj_walks_order.specs.declared.error.ListError.{ListError}
use Rattle.gixobj_walks_order.specs.declared.error.ListError.TheVariants.{Cycle, OutOfMemory}

-- each commit is read, and each parent is one of the commits
pub record IsKnownGraph (nodes : Nodes) : Type 0 where
  pub read : (number : ℕ) → number < length nodes → IsRead (graph_at nodes) number
  pub parents : AreParentsKnown nodes

-- a commit is read, and its parents are numbers below the bound
abbrev pub IsKnownEntry : ℕ → Option (NodeView ℕ) → Type 0
IsKnownEntry count entry = (node : NodeView ℕ) × (entry ≡ Some node)
    × AllByRecursion (λ parent. parent < count) node.parents

-- when no list is made: a selected commit is an ancestor of itself, by way of selected ones, or memory ran out where
-- there is a commit
abbrev pub IsWalkError : Nodes → List ℕ → List ℕ → ListError → Type 0
IsWalkError nodes tips hidden Cycle = IsCycle (graph_at nodes) (IsSelected (graph_at nodes) tips hidden)
IsWalkError nodes tips hidden OutOfMemory = 0 < length nodes

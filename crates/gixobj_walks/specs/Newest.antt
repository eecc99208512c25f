-- The order of merge bases: the newest first, those of equal seconds by their ids.
use Rattle.std.specs.Prelude.{◌≡◌, ◌⊎◌, ◌+◌, ◌-◌, ◌<◌, ◌^◌, ℕ, List, Contains}
use Rattle.std.specs.Ordering.{nat_cmp, ordering_then}
use Rattle.std.specs.declared.cmp.Ordering.{Ordering}
use Rattle.std.specs.declared.cmp.Ordering.TheVariants.{Less}
use Rattle.gixobj_hash.specs.Hash.Order.{id_cmp}
use Rattle.gixobj_hash.specs.declared.hash.object_id.ObjectId.{ObjectId}
use Rattle.gixobj_walks_graph.specs.Graph.{EachLater, Graph, NodeView}
use Rattle.gixobj_walks_graph.specs.Numbered.{Nodes, graph_at}
use Rattle.gixobj_walks.specs.Named.{Names}
use Rattle.gixobj_walks.specs.declared.newest.Dated.{Dated}

-- the first commit comes before the second: it is newer, or as new and its id is smaller
pub record ComesBefore (G : Graph ObjectId) (id other : ObjectId) : Type 0 where
  pub node : NodeView ObjectId
  pub other_node : NodeView ObjectId
  pub named : G id node
  pub other_named : G other other_node
  pub order : (other_node.seconds < node.seconds) ⊎ ((node.seconds ≡ other_node.seconds) × (id_cmp id other ≡ Less))

-- the newest first, those of equal seconds by their ids
abbrev pub AreNewestFirst : Graph ObjectId → List ObjectId → Type 0
AreNewestFirst G ids = EachLater (ComesBefore G) ids

-- one of the numbers has this name
abbrev pub IsNameOf : List ObjectId → List ℕ → ObjectId → Type 0
IsNameOf ids numbers id = (number : ℕ) × Contains numbers number × Names ids number id

-- the order of commits by their dates: by their ages, then by their ids
abbrev pub dated_cmp : Dated → Dated → Ordering
dated_cmp a b = ordering_then (nat_cmp a.age b.age) (id_cmp a.id b.id)

-- a commit by its date, which is one of those with these numbers
pub record IsDated (ids : List ObjectId) (nodes : Nodes) (numbers : List ℕ) (dated : Dated) : Type 0 where
  pub number : ℕ
  pub node : NodeView ℕ
  pub listed : Contains numbers number
  pub name : Names ids number dated.id
  pub read : graph_at nodes number node
  pub age : dated.age + node.seconds ≡ 2 ^ 64 - 1

-- exactly the commits with these numbers
pub record AreDated (ids : List ObjectId) (nodes : Nodes) (numbers : List ℕ) (keys : List Dated) : Type 0 where
  pub each : (dated : Dated) → Contains keys dated → IsDated ids nodes numbers dated
  pub all : (number : ℕ) (id : ObjectId) → Contains numbers number → Names ids number id
      → (dated : Dated) × Contains keys dated × (dated.id ≡ id)

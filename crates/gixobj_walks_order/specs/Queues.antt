-- The commits that wait, as the code that lists commits keeps them.
use Rattle.std.specs.Prelude.{◌≡◌, ◌+◌, ◌-◌, ◌<◌, ◌^◌, ℕ, List, map}
use Rattle.std.specs.List.{AllByRecursion}
use Rattle.std.specs.BTreeSet.{BTreeSet}
use Rattle.gixobj_walks_graph.specs.Graph.{NodeView}
use Rattle.gixobj_walks_graph.specs.Listing.{Waiting}
use Rattle.gixobj_walks_graph.specs.Numbered.{Nodes, graph_at}
use Rattle.gixobj_walks_order.specs.declared.queue.Key.{Key}
use Rattle.gixobj_walks_order.specs.declared.queue.Queue.{Queue}

-- the key of a commit that waits by its date; fewer joined before it than the limit
pub record IsKey (nodes : Nodes) (limit : ℕ) (key : Key) : Type 0 where
  pub node : NodeView ℕ
  pub named : graph_at nodes key.number node
  pub age : key.age + node.seconds ≡ 2 ^ 64 - 1
  pub joined : key.joined < limit

-- each is such a key
abbrev pub AreKeys : Nodes → ℕ → BTreeSet Key → Type 0
AreKeys nodes limit dated = AllByRecursion (λ key. IsKey nodes limit key) dated.keys

-- the commits that wait by their dates
abbrev pub numbers_of : BTreeSet Key → List ℕ
numbers_of dated = map (λ key. key.number) dated.keys

-- the commits that wait
abbrev pub waiting_of : Queue → Waiting ℕ
waiting_of queue = record { dated = numbers_of queue.dated; found = queue.found.items }

-- What a walk knows and what it still needs (git-rev-list).
use Rattle.std.specs.Prelude.{◌≡◌, ◌<◌, ℕ, Bool, true, false, IsTrue, List, Option, None, filter_map, length, slice_get}
use Rattle.std.specs.List.{AllByRecursion}
use Rattle.std.specs.Option.{option_and_then}
use Rattle.gixobj_hash.specs.declared.hash.object_id.ObjectId.{ObjectId}
use Rattle.gixobj_walks_graph.specs.Graph.{Graph}
use Rattle.gixobj_walks_graph.specs.Numbered.{AreParentsKnown, Nodes, graph_at}
use Rattle.gixobj_walks_marks.specs.Marks.{HasMarks}
use Rattle.gixobj_walks_marks.specs.Readings.{ReadingView}
use Rattle.gixobj_walks_marks.specs.Settled.{IsSettledWalk}
use Rattle.gixobj_walks.specs.Named.{AreDistinct, named_graph}

-- a walk: the ids of its tips and of its hidden commits, the commits that it knows, and the id of the one that it needs
pub record WalkView : Type 0 where
  pub tips : List ObjectId
  pub hidden : List ObjectId
  pub ids : List ObjectId
  pub nodes : Nodes
  pub wanted : Option ObjectId

-- the commits that were given to the walk
abbrev pub given_graph : WalkView → Graph ObjectId
given_graph walk = named_graph walk.ids walk.nodes

-- the names of these numbers
abbrev pub names_of : {V : Type 0} → List V → List ℕ → List V
names_of ids numbers = filter_map (slice_get ids) numbers

-- what is wanted: nothing more if the walk is settled, else the name of the next number
abbrev pub wanted_of : Bool → List ObjectId → Option ℕ → Option ObjectId
wanted_of true ids next = None
wanted_of false ids next = option_and_then (slice_get ids) next

-- what a walk keeps: each number has a name of its own, the marks are those of its starts, and settled means settled
pub record IsWalking (ids : List ObjectId) (reading : ReadingView) (tips hidden : List ℕ) (settled : Bool)
    : Type 0 where
  pub lengths : length reading.nodes ≡ length ids
  pub known : AreParentsKnown reading.nodes
  pub distinct : AreDistinct ids
  pub tips_known : AllByRecursion (λ number. number < length ids) tips
  pub hidden_known : AllByRecursion (λ number. number < length ids) hidden
  pub left : HasMarks reading.nodes tips reading.left
  pub right : HasMarks reading.nodes hidden reading.right
  pub end : IsTrue settled → IsSettledWalk (graph_at reading.nodes) tips hidden

-- What a search over the histories of two commits knows and what it still needs (git-merge-base).
use Rattle.std.specs.Prelude.{ℕ, Bool, false, IsTrue, List, [], ◌∷◌, Option}
use Rattle.gixobj_hash.specs.declared.hash.object_id.ObjectId.{ObjectId}
use Rattle.gixobj_walks_graph.specs.Graph.{Graph}
use Rattle.gixobj_walks_graph.specs.Numbered.{Nodes}
use Rattle.gixobj_walks_marks.specs.Readings.{ReadingView}
use Rattle.gixobj_walks.specs.Machine.{IsWalking}
use Rattle.gixobj_walks.specs.Named.{Names, named_graph}

-- a search: the ids of the two commits, the commits that it knows, and the id of the one that it needs
pub record SearchView : Type 0 where
  pub one : ObjectId
  pub other : ObjectId
  pub ids : List ObjectId
  pub nodes : Nodes
  pub wanted : Option ObjectId

-- the commits that were given to the search
abbrev pub searched_graph : SearchView → Graph ObjectId
searched_graph search = named_graph search.ids search.nodes

-- what a search keeps: the two commits are the starts of the two sides, and `Ended` holds if it is settled
pub record IsSearching (ids : List ObjectId) (reading : ReadingView) (one other : ObjectId) (settled : Bool)
    (Ended : Type 0) : Type 0 where
  pub one_number : ℕ
  pub other_number : ℕ
  pub one_name : Names ids one_number one
  pub other_name : Names ids other_number other
  pub kept : IsWalking ids reading (one_number ∷ []) (other_number ∷ []) false
  pub end : IsTrue settled → Ended

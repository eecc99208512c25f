-- When a walk or a search for merge bases has read enough: what it has not read changes nothing.
use Rattle.std.specs.Prelude.{◌⊎◌, List}
use Rattle.gixobj_walks_graph.specs.Graph.{Graph, HasParent, IsRead, IsReachedFrom, Reaches}
use Rattle.gixobj_walks_graph.specs.Walks.{IsSelected}
use Rattle.gixobj_walks_graph.specs.Bases.{IsCommon}

-- each commit that the starts reach is read
abbrev pub IsComplete : {V : Type 0} → Graph V → List V → Type 0
IsComplete {V} R starts = (id : V) → IsReachedFrom R starts id → IsRead R id

-- a selected commit of those that are read, with no selected parent
pub record IsBottom {V : Type 0} (R : Graph V) (tips hidden : List V) (id : V) : Type 0 where
  pub read : IsRead R id
  pub selected : IsSelected R tips hidden id
  pub last : (parent : V) → HasParent R id parent → ¬ IsSelected R tips hidden parent

-- an unread commit that tips or hidden commits reach
pub record IsWanted {V : Type 0} (R : Graph V) (tips hidden : List V) (id : V) : Type 0 where
  pub unread : ¬ IsRead R id
  pub reached : IsReachedFrom R tips id ⊎ IsReachedFrom R hidden id

-- each commit that is not read is hidden, and each bottom reaches it
pub record IsSettledWalk {V : Type 0} (R : Graph V) (tips hidden : List V) : Type 0 where
  pub hides : (id : V) → IsWanted R tips hidden id → IsReachedFrom R hidden id
  pub below : (id bottom : V) → IsWanted R tips hidden id → IsBottom R tips hidden bottom → Reaches R bottom id

-- a common ancestor that is no parent of a common one, by the commits that are read
pub record IsCandidate {V : Type 0} (R : Graph V) (one other id : V) : Type 0 where
  pub common : IsCommon R one other id
  pub best : (child : V) → IsCommon R one other child → ¬ HasParent R child id

-- an unread commit that either of the two reaches
pub record IsWantedBase {V : Type 0} (R : Graph V) (one other id : V) : Type 0 where
  pub unread : ¬ IsRead R id
  pub reached : Reaches R one id ⊎ Reaches R other id

-- both commits reach each commit that is not read, and so does each candidate, which is read itself
pub record IsSettledBases {V : Type 0} (R : Graph V) (one other : V) : Type 0 where
  pub common : (id : V) → IsWantedBase R one other id → IsCommon R one other id
  pub below : (id candidate : V) → IsWantedBase R one other id → IsCandidate R one other candidate
      → Reaches R candidate id
  pub read : (candidate : V) → IsCandidate R one other candidate → IsRead R candidate

-- What a walk lists (git-rev-list, `TIP.. ^HIDDEN..`).
use Rattle.std.specs.Prelude.{◌≡◌, ◌↔◌, ◌++◌, List, [], ◌∷◌, Contains}
use Rattle.gixobj_walks_graph.specs.Graph.{AreOnce, EachLater, Graph, HasAncestor, HasParent, IsReachedFrom}
use Rattle.gixobj_walks_graph.specs.Listing.{IsListing, IsNotOlder, IsReady}
use Rattle.gixobj_walks_graph.specs.declared.order.Order.{Order}
use Rattle.gixobj_walks_graph.specs.declared.order.Order.TheVariants.{Date, Topological}

-- a commit of `TIPS ^HIDDEN`: a tip reaches it, and no hidden commit does
pub record IsSelected {V : Type 0} (G : Graph V) (tips hidden : List V) (id : V) : Type 0 where
  pub reached : IsReachedFrom G tips id
  pub shown : ¬ IsReachedFrom G hidden id

-- exactly the selected commits
abbrev pub ListsSelected : {V : Type 0} → Graph V → List V → List V → List V → Type 0
ListsSelected {V} G tips hidden ids = (id : V) → Contains ids id ↔ IsSelected G tips hidden id

-- no commit comes after an ancestor of it
abbrev pub AreChildrenFirst : {V : Type 0} → Graph V → List V → Type 0
AreChildrenFirst G ids = EachLater (λ x y. ¬ HasAncestor G y x) ids

-- of the commits that are ready when one is listed, none is newer than it (`--date-order`)
abbrev pub IsNewestFirst : {V : Type 0} → Graph V → (V → Type 0) → List V → Type 0
IsNewestFirst {V} G Selected ids = (before after : List V) (id other : V) → ids ≡ before ++ id ∷ after
    → Contains after other → IsReady G Selected before other → IsNotOlder G id other

-- after a commit comes a parent of it, if a parent of it is ready then: lines of history stay apart (`--topo-order`)
abbrev pub FollowsLines : {V : Type 0} → Graph V → (V → Type 0) → List V → Type 0
FollowsLines {V} G Selected ids = (before after : List V) (id parent : V) → ids ≡ before ++ id ∷ after
    → HasParent G id parent → IsReady G Selected (before ++ id ∷ []) parent
    → (next : V) × (rest : List V) × (after ≡ next ∷ rest) × HasParent G id next

-- what a walk lists: exactly the selected commits, each once, no commit after an ancestor of it, in this order
pub record IsWalk {V : Type 0} (G : Graph V) (order : Order) (tips hidden ids : List V) : Type 0 where
  pub exact : ListsSelected G tips hidden ids
  pub once : AreOnce ids
  pub children_first : AreChildrenFirst G ids
  pub listing : IsListing G order (IsSelected G tips hidden) tips ids
  pub newest_first : order ≡ Date → IsNewestFirst G (IsSelected G tips hidden) ids
  pub follows_lines : order ≡ Topological → FollowsLines G (IsSelected G tips hidden) ids

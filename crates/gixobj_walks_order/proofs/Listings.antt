-- A list of a walk has selected commits, each once, and no commit after an ancestor of it.
use Rattle.std.proofs.Common.{◌≢◌, ℕ, zero, suc, List, [], ◌∷◌, Contains, sym, subst, ⊎_elim}
use Rattle.gixobj_walks_graph.specs.Graph.{AreOnce, Graph, HasAncestor, HasParent, LeadsTo, Reaches}
use Rattle.gixobj_walks_graph.specs.Listing.{IsListing, IsReady, ListsAll, Waiting}
use Rattle.gixobj_walks_graph.specs.Walks.{AreChildrenFirst}
use Rattle.gixobj_walks_graph.specs.declared.order.Order.{Order}
use Rattle.gixobj_walks_order.proofs.Members.{contains_cases, contains_here, contains_later, contains_nothing, each_from_contained}
use Rattle.gixobj_walks_order.specs.Progress.{IsProgress}
use Rattle.gixobj_walks_order.proofs.Progress.{next_is_ready, next_is_unlisted, progress_first, progress_more}

-- a parent of a selected commit that reaches a selected one is selected
abbrev pub IsConvex : {V : Type 0} → Graph V → (V → Type 0) → Type 0
IsConvex {V} G Selected = (child id last : V) → Selected child → HasParent G child id → Reaches G id last → Selected last
    → Selected id

module _ {V : Type 0} (G : Graph V) (order : Order) (Selected : V → Type 0) where
  -- each commit of the list is selected and wasn't listed before
  pub each_listed : (ids listed : List V) (waiting : Waiting V) → IsProgress G Selected listed waiting
      → ListsAll G order Selected listed waiting ids → (x : V) → Contains ids x → Selected x × (¬ Contains listed x)
  each_listed [] listed waiting progress all x has = absurd (contains_nothing x has)
  each_listed (id ∷ ids) listed waiting progress (next, lists, more) x has = ⊎_elim
      (λ same. (
        subst (λ z. Selected z) same (next_is_ready G order Selected listed waiting id next lists progress).selected,
        subst (λ z. ¬ Contains listed z) same (next_is_unlisted G order Selected listed waiting id next lists progress),
      ))
      (λ later.
      let known = each_listed ids (id ∷ listed) next (progress_more G order Selected listed waiting id next lists progress) more x later in
      (known.0, λ was. known.1 (contains_later id x listed was)))
      (contains_cases id x ids has)

  pub once_listed : (ids listed : List V) (waiting : Waiting V) → IsProgress G Selected listed waiting
      → ListsAll G order Selected listed waiting ids → AreOnce ids
  once_listed [] listed waiting progress all = tt
  once_listed (id ∷ ids) listed waiting progress (next, lists, more) =
      let after = progress_more G order Selected listed waiting id next lists progress in (
        each_from_contained (λ y. id ≢ y) ids
            (λ y has same. (each_listed ids (id ∷ listed) next after more y has).1
            (subst (λ z. Contains (id ∷ listed) z) same (contains_here id listed))),
        once_listed ids (id ∷ listed) next after more,
      )

  -- what reaches a listed commit is listed, if each commit on the way is selected
  reaches_listed : (listed : List V) → ((x : V) → Contains listed x → IsReady G Selected listed x) → IsConvex G Selected
      → (n : ℕ) (y x : V) → Selected y → LeadsTo G n y x → Contains listed x → Contains listed y
  reaches_listed listed closed convex zero y x selected same has = subst (λ z. Contains listed z) (sym same) has
  reaches_listed listed closed convex (suc n) y x selected (next, parent, more) has =
      let between = convex y next x selected parent (n, more) (closed x has).selected in
      let there = reaches_listed listed closed convex n next x between more has in
      (closed next there).children y selected parent

  pub children_first_listed : IsConvex G Selected → (ids listed : List V) (waiting : Waiting V)
      → IsProgress G Selected listed waiting → ListsAll G order Selected listed waiting ids → AreChildrenFirst G ids
  children_first_listed convex [] listed waiting progress all = tt
  children_first_listed convex (id ∷ ids) listed waiting progress (next, lists, more) =
      let is = next_is_ready G order Selected listed waiting id next lists progress in
      let after = progress_more G order Selected listed waiting id next lists progress in (
        each_from_contained (λ y. ¬ HasAncestor G y id) ids
            (λ y has way.
            let known = each_listed ids (id ∷ listed) next after more y has in
            known.1 (reaches_listed (id ∷ listed) after.listed_ready convex (suc way.0) y id known.0 way.1 (contains_here id listed))),
        children_first_listed convex ids (id ∷ listed) next after more,
      )

  module _ (tips ids : List V) (listing : IsListing G order Selected tips ids) where
    begin : IsProgress G Selected [] (record { dated = listing.dated; found = [] })
    begin = progress_first G Selected tips listing.ready listing.dated listing.first_ready listing.by_date

    -- only selected commits are listed
    pub listing_is_selected : (id : V) → Contains ids id → Selected id
    listing_is_selected id has = (each_listed ids [] (record { dated = listing.dated; found = [] }) begin listing.lists id has).0

    -- each commit is listed once
    pub listing_is_once : AreOnce ids
    listing_is_once = once_listed ids [] (record { dated = listing.dated; found = [] }) begin listing.lists

    -- no commit is listed after an ancestor of it
    pub listing_is_children_first : IsConvex G Selected → AreChildrenFirst G ids
    listing_is_children_first convex = children_first_listed convex ids [] (record { dated = listing.dated; found = [] }) begin listing.lists

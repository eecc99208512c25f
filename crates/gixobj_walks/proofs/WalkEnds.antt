-- A walk over the commits that are read is a walk over each graph with these commits, where reading has ended.
use Rattle.std.proofs.Common.{◌⊎◌, ◌↔◌, ◌<◌, ℕ, zero, suc, List, [], ◌∷◌, ⊎_elim, inl, refl, length, arith}
use Rattle.std.specs.Prelude.{Contains}
use Rattle.std.specs.List.{AllByRecursion}
use Rattle.gixobj_walks_graph.specs.Graph.{AreOnce, Graph, HasAncestor, IsAcyclic, IsFunctional, IsIncluded, IsRead, LeadsTo}
use Rattle.gixobj_walks_graph.specs.Listing.{IsListing}
use Rattle.gixobj_walks_graph.specs.Walks.{AreChildrenFirst, IsSelected, IsWalk, ListsSelected}
use Rattle.gixobj_walks_graph.specs.declared.order.Order.{Order}
use Rattle.gixobj_walks_marks.specs.Settled.{IsComplete, IsSettledWalk}
use Rattle.gixobj_walks_marks.proofs.Ends.{HaveBottoms, complete_is_exact, settled_walk_is_exact}
use Rattle.gixobj_walks_marks.proofs.Paths.{read_has_parent, reached_from_reaches, reaches_parent}
use Rattle.gixobj_walks_order.proofs.Lines.{topological_follows_lines}
use Rattle.gixobj_walks_order.proofs.NewestFirst.{date_is_newest_first}
use Rattle.gixobj_walks.proofs.LargerGraphs.{listing_in_larger}

contained_later : {X : Type 0} (first : X) (xs : List X) (x : X) → Contains xs x → Contains (first ∷ xs) x
contained_later first xs x has = let inside : has.0 < length xs = has.1 in (suc has.0, omega arith, has.2)

-- a fact of each element that the list contains
all_of_contained : {X : Type 0} (P Q : X → Type 0) (xs : List X) → ((x : X) → Contains xs x → P x → Q x) → AllByRecursion P xs
    → AllByRecursion Q xs
all_of_contained P Q [] weaker all = tt
all_of_contained P Q (x ∷ xs) weaker all =
    (weaker x (0, omega arith, refl) all.0, all_of_contained P Q xs (λ y has. weaker y (contained_later x xs y has)) all.1)

-- what follows from the order of a list, with what it contains
pub walk_of_listing : {V : Type 0} (G : Graph V) → IsFunctional G → (order : Order) (tips hidden ids : List V)
    → ListsSelected G tips hidden ids → AreOnce ids → AreChildrenFirst G ids
    → IsListing G order (IsSelected G tips hidden) tips ids → IsWalk G order tips hidden ids
walk_of_listing G functional order tips hidden ids exact once children_first listing = record {
  exact = exact;
  once = once;
  children_first = children_first;
  listing = listing;
  newest_first = date_is_newest_first G (IsSelected G tips hidden) order tips ids listing;
  follows_lines = topological_follows_lines G (IsSelected G tips hidden) functional order tips ids listing;
}

module _ {V : Type 0} (R G : Graph V) (tips hidden : List V) (included : IsIncluded R G) (functional : IsFunctional G)
    (same : (id : V) → IsSelected R tips hidden id ↔ IsSelected G tips hidden id)
    (read : (id : V) → IsSelected R tips hidden id → IsRead R id) where
  -- a path from a selected commit to one is a path over commits that are read
  path_in_smaller : (n : ℕ) (from to : V) → IsSelected G tips hidden from → IsSelected G tips hidden to → LeadsTo G n from to
      → LeadsTo R n from to
  path_in_smaller zero from to selected last path = path
  path_in_smaller (suc n) from to selected last path =
      let edge = read_has_parent R G included functional from path.0 (read from ((same from).1 selected)) path.1 in
      let next : IsSelected G tips hidden path.0 = record {
        reached = reached_from_reaches G tips from path.0 selected.reached (reaches_parent G from path.0 path.1);
        shown = λ hides. last.shown (reached_from_reaches G hidden path.0 to hides (n, path.2));
      } in
      (path.0, edge, path_in_smaller n path.0 to next last path.2)

  children_first_in_larger : (ids : List V) → ((id : V) → Contains ids id → IsSelected G tips hidden id) → AreChildrenFirst R ids
      → AreChildrenFirst G ids
  children_first_in_larger [] selected first = tt
  children_first_in_larger (x ∷ ids) selected first = (
    all_of_contained (λ y. ¬ HasAncestor R y x) (λ y. ¬ HasAncestor G y x) ids
        (λ y has none path. none (
          path.0,
          path_in_smaller (suc path.0) y x (selected y (contained_later x ids y has))
              (selected x (0, omega arith, refl)) path.1,
        )) first.0,
    children_first_in_larger ids (λ id has. selected id (contained_later x ids id has)) first.1,
  )

  walk_in_larger : (order : Order) (ids : List V) → IsWalk R order tips hidden ids → IsWalk G order tips hidden ids
  walk_in_larger order ids walk = walk_of_listing G functional order tips hidden ids
      (λ id. ((λ has. (same id).0 ((walk.exact id).0 has)), (λ selected. (walk.exact id).1 ((same id).1 selected))))
      walk.once
      (children_first_in_larger ids (λ id has. (same id).0 ((walk.exact id).0 has)) walk.children_first)
      (listing_in_larger R G (IsSelected R tips hidden) (IsSelected G tips hidden) included functional read same order tips ids
      walk.listing)

-- if everything is read
pub walk_of_complete : {V : Type 0} (R G : Graph V) (tips hidden : List V) → IsIncluded R G → IsFunctional G
    → IsComplete R tips → IsComplete R hidden → (order : Order) (ids : List V) → IsWalk R order tips hidden ids
    → IsWalk G order tips hidden ids
walk_of_complete R G tips hidden included functional complete_tips complete_hidden =
    let from_tips = complete_is_exact R G tips included functional complete_tips in
    let from_hidden = complete_is_exact R G hidden included functional complete_hidden in
    walk_in_larger R G tips hidden included functional
    (λ id. (
      (λ small. record { reached = (from_tips id).0 small.reached; shown = λ hides. small.shown ((from_hidden id).1 hides) }),
      (λ large. record { reached = (from_tips id).1 large.reached; shown = λ hides. large.shown ((from_hidden id).0 hides) }),
    ))
    (λ id selected. complete_tips id selected.reached)

-- if what isn't read changes nothing, since no commit is an ancestor of itself
pub walk_of_settled : {V : Type 0} (R G : Graph V) (tips hidden : List V) → IsIncluded R G → IsFunctional G → IsAcyclic G
    → ((id : V) → IsRead R id ⊎ (¬ IsRead R id)) → HaveBottoms R tips hidden → IsSettledWalk R tips hidden
    → (order : Order) (ids : List V) → IsWalk R order tips hidden ids → IsWalk G order tips hidden ids
walk_of_settled {V} R G tips hidden included functional acyclic decide bottoms settled =
    let exact = settled_walk_is_exact R G tips hidden included functional acyclic decide bottoms settled in
    let read : (id : V) → IsSelected R tips hidden id → IsRead R id = λ id selected.
    ⊎_elim (λ is. is) (λ unread. absurd (selected.shown (settled.hides id (record { unread = unread; reached = inl selected.reached }))))
    (decide id) in
    walk_in_larger R G tips hidden included functional
    (λ id. ((λ small. (exact id).0 (read id small, small)), (λ large. ((exact id).1 large).1))) read

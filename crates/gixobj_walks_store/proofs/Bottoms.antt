-- Each selected commit of a walk reaches a selected commit without a selected parent, since the list ends.
use Rattle.std.proofs.Common.{◌≡◌, ◌⊎◌, ◌<◌, zero, suc, List, [], ◌∷◌, ⊎_elim, inl, inr, refl, sym, subst, length, arith}
use Rattle.std.specs.Prelude.{Contains}
use Rattle.std.specs.List.{AllByRecursion}
use Rattle.gixobj_walks_graph.specs.Graph.{Graph, HasAncestor, HasParent, IsAcyclic, IsRead, Reaches}
use Rattle.gixobj_walks_graph.specs.Walks.{AreChildrenFirst, IsSelected, IsWalk}
use Rattle.gixobj_walks_graph.specs.declared.order.Order.{Order}
use Rattle.gixobj_walks_marks.proofs.Ends.{HaveBottoms}
use Rattle.gixobj_walks_marks.proofs.Paths.{reaches_itself, reaches_parent, reaches_transitively, step_reaches}
use Rattle.gixobj_walks_marks.specs.Settled.{IsBottom}

first_or_later : {X : Type 0} (first x : X) (xs : List X) → Contains (first ∷ xs) x → (first ≡ x) ⊎ Contains xs x
first_or_later first x xs (zero, below, is) = inl is
first_or_later first x xs (suc k, below, is) = inr (k, omega arith, is)

contains_first : {X : Type 0} (first : X) (xs : List X) → Contains (first ∷ xs) first
contains_first first xs = (0, omega arith, refl)

contains_later : {X : Type 0} (first : X) (xs : List X) (x : X) → Contains xs x → Contains (first ∷ xs) x
contains_later first xs x has = let inside : has.0 < length xs = has.1 in (suc has.0, omega arith, has.2)

all_of_contained : {X : Type 0} (P : X → Type 0) (xs : List X) → AllByRecursion P xs → (x : X) → Contains xs x → P x
all_of_contained P [] all x (k, below, is) = absurd (omega arith)
all_of_contained P (first ∷ xs) all x (zero, below, is) = subst P is all.0
all_of_contained P (first ∷ xs) all x (suc k, below, is) = all_of_contained P xs all.1 x (k, omega arith, is)

module _ {V : Type 0} (R : Graph V) (tips hidden : List V) (acyclic : IsAcyclic R)
    (read : (id : V) → IsSelected R tips hidden id → IsRead R id) where
  -- the list has each selected parent of its commits
  abbrev HasParents : List V → Type 0
  HasParents ids = (id parent : V) → Contains ids id → HasParent R id parent → IsSelected R tips hidden parent → Contains ids parent

  parent_is_ancestor : (id parent : V) → HasParent R id parent → HasAncestor R id parent
  parent_is_ancestor id parent edge = step_reaches R id parent parent edge (reaches_itself R parent)

  later_has_parents : (first : V) (ids : List V) → AreChildrenFirst R (first ∷ ids) → HasParents (first ∷ ids) → HasParents ids
  later_has_parents first ids order closed id parent has edge selected = ⊎_elim
      (λ same. absurd (all_of_contained (λ y. ¬ HasAncestor R y first) ids order.0 id has
      (parent_is_ancestor id first (subst (λ v. HasParent R id v) (sym same) edge))))
      (λ later. later)
      (first_or_later first parent ids (closed id parent (contains_later first ids id has) edge selected))

  reaches_bottom : (ids : List V) → AreChildrenFirst R ids → HasParents ids
      → ((id : V) → Contains ids id → IsSelected R tips hidden id) → (id : V) → Contains ids id
      → ¬ ((bottom : V) → IsBottom R tips hidden bottom → ¬ Reaches R id bottom)
  reaches_bottom [] order closed selected id (k, below, is) none = omega arith
  reaches_bottom (first ∷ ids) order closed selected id has none =
      let later : (x : V) → Contains ids x → ¬ ((bottom : V) → IsBottom R tips hidden bottom → ¬ Reaches R x bottom) =
      reaches_bottom ids order.1 (later_has_parents first ids order closed) (λ x it. selected x (contains_later first ids x it)) in
      ⊎_elim
      (λ same.
      let of_first : (bottom : V) → IsBottom R tips hidden bottom → ¬ Reaches R first bottom =
      subst (λ v. (bottom : V) → IsBottom R tips hidden bottom → ¬ Reaches R v bottom) (sym same) none in
      of_first first (record {
        read = read first (selected first (contains_first first ids));
        selected = selected first (contains_first first ids);
        last = λ parent edge chosen. ⊎_elim
            (λ itself. acyclic first (parent_is_ancestor first first (subst (λ v. HasParent R first v) (sym itself) edge)))
            (λ it. later parent it (λ bottom is path. of_first bottom is
            (reaches_transitively R first parent bottom (reaches_parent R first parent edge) path)))
            (first_or_later first parent ids (closed first parent (contains_first first ids) edge chosen));
      }) (reaches_itself R first))
      (λ it. later id it none)
      (first_or_later first id ids has)

  pub bottoms_of_walk : (order : Order) (ids : List V) → IsWalk R order tips hidden ids → HaveBottoms R tips hidden
  bottoms_of_walk order ids walk id is_read selected = reaches_bottom ids walk.children_first
      (λ it parent has edge chosen. (walk.exact parent).1 chosen) (λ it has. (walk.exact it).0 has) id ((walk.exact id).1 selected)

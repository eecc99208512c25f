-- The counts say which commits are ready.
use Rattle.std.proofs.Common.{◌≡◌, ◌+◌, ◌<◌, ◌≤◌, ◌&&◌, ◌==◌, ◌∙◌, ℕ, zero, suc, Bool, true, false, not, cond, List, [], ◌∷◌, Contains, Option, Some, None, inl}
use Rattle.std.proofs.Common.{inr, refl, sym, ap, subst, ⊎_elim, arith, length, nat_eq, set, slice_get, slice_index}
use Rattle.std.specs.List.{AllByRecursion}
use Rattle.std.proofs.lemmas.Bool.{and_from, and_parts, both_ways, cases_eq, eq-eqb, eqb-true, false_from_ne_true, not_from_false, not-true, or_cases, or_left}
use Rattle.std.proofs.lemmas.Bool.{or_right}
use Rattle.std.proofs.lemmas.List.{get_or-set_other, get_or-set_same}
use Rattle.std.proofs.lemmas.Option.{get_or_from_slice_get, slice_get_within}
use Rattle.gixobj_walks_graph.specs.Graph.{HasParent, NodeView}
use Rattle.gixobj_walks_graph.specs.Listing.{AreFirstReady, BecomeReady, IsReady}
use Rattle.gixobj_walks_graph.specs.Numbered.{IsMarked, Nodes, graph_at, parents_at, parents_in}
use Rattle.gixobj_walks_order.specs.Counts.{IsPending, first_tips, freed_parents, is_marked, is_named, pending_children}
use Rattle.gixobj_walks_order.proofs.Members.{contains_cases, contains_here, contains_later, contains_nothing}

-- ---- tests and facts

pub named_contains : (q : ℕ) (xs : List ℕ) → is_named q xs ≡ true → Contains xs q
named_contains q [] named = cc
named_contains q (x ∷ xs) named = ⊎_elim
    (λ same. subst (λ z. Contains (z ∷ xs) q) (eqb-true q x same) (contains_here q xs))
    (λ later. contains_later x q xs (named_contains q xs later))
    (or_cases (nat_eq q x) (is_named q xs) named)

pub contains_named : (q : ℕ) (xs : List ℕ) → Contains xs q → is_named q xs ≡ true
contains_named q [] has = absurd (contains_nothing q has)
contains_named q (x ∷ xs) has = ⊎_elim
    (λ same. or_left (nat_eq q x) (is_named q xs) (eq-eqb q x (sym same)))
    (λ later. or_right (nat_eq q x) (is_named q xs) (contains_named q xs later))
    (contains_cases x q xs has)

pub marked_holds : (marked : List Bool) (k : ℕ) → is_marked marked k ≡ true → IsMarked marked k
marked_holds [] k test = cc
marked_holds (b ∷ bs) zero test = ap (λ (x : Bool). Some x) test
marked_holds (b ∷ bs) (suc k) test = marked_holds bs k test

pub marked_tests : (marked : List Bool) (k : ℕ) → IsMarked marked k → is_marked marked k ≡ true
marked_tests marked k holds = get_or_from_slice_get marked k true false holds

-- a commit that has a parent is read
parents_read : (slot : Option (Option (NodeView ℕ))) (q : ℕ) → is_named q (parents_in slot) ≡ true
    → (node : NodeView ℕ) × (slot ≡ Some (Some node)) × Contains node.parents q
parents_read None q named = cc
parents_read (Some None) q named = cc
parents_read (Some (Some node)) q named = (node, refl, named_contains q node.parents named)

-- the test of a child, and what it says
pub child_has_parent : (nodes : Nodes) (child q : ℕ) → is_named q (parents_at nodes child) ≡ true
    → HasParent (graph_at nodes) child q
child_has_parent nodes child q named =
    let read = parents_read (slice_get nodes child) q named in
    record { node = read.0; named = read.1; listed = read.2 }

pub parents_of_named : (nodes : Nodes) (child : ℕ) (node : NodeView ℕ) → graph_at nodes child node
    → parents_at nodes child ≡ node.parents
parents_of_named nodes child node named = ap parents_in named

pub parent_is_named : (nodes : Nodes) (child q : ℕ) → HasParent (graph_at nodes) child q
    → is_named q (parents_at nodes child) ≡ true
parent_is_named nodes child q parent =
    ap (is_named q) (parents_of_named nodes child parent.node parent.named) ∙ contains_named q parent.node.parents parent.listed

-- ---- counts

module _ (nodes : Nodes) (pending : List Bool) (parent : ℕ) where
  none_below : (n : ℕ) → pending_children nodes pending parent n ≡ 0 → (k : ℕ) → k < n
      → (is_marked pending k && is_named parent (parents_at nodes k)) ≡ false
  none_below zero none k less = absurd (omega arith)
  none_below (suc n) none k less = ⊎_elim
      (λ same. false_from_ne_true (is_marked pending k && is_named parent (parents_at nodes k)) (λ test.
      let here : (is_marked pending n && is_named parent (parents_at nodes n)) ≡ true =
      subst (λ j. (is_marked pending j && is_named parent (parents_at nodes j)) ≡ true) same test in
      let one : cond {A = ℕ} (is_marked pending n && is_named parent (parents_at nodes n)) 1 0 ≡ 1 = ap (λ b. cond {A = ℕ} b 1 0) here in
      absurd (omega arith)))
      (λ other. none_below n (omega arith) k (omega arith))
      (cases_eq k n)

  none_from_below : (n : ℕ) → ((k : ℕ) → k < n → (is_marked pending k && is_named parent (parents_at nodes k)) ≡ false)
      → pending_children nodes pending parent n ≡ 0
  none_from_below zero each = refl
  none_from_below (suc n) each =
      let more = none_from_below n (λ k less. each k (omega arith)) in
      let none : cond {A = ℕ} (is_marked pending n && is_named parent (parents_at nodes n)) 1 0 ≡ 0 =
      ap (λ b. cond {A = ℕ} b 1 0) (each n (omega arith)) in
      omega arith

  pub some_above : (n k : ℕ) → k < n → (is_marked pending k && is_named parent (parents_at nodes k)) ≡ true
      → 0 < pending_children nodes pending parent n
  some_above zero k less test = absurd (omega arith)
  some_above (suc n) k less test = ⊎_elim
      (λ same.
      let here : (is_marked pending n && is_named parent (parents_at nodes n)) ≡ true =
      subst (λ j. (is_marked pending j && is_named parent (parents_at nodes j)) ≡ true) same test in
      let one : cond {A = ℕ} (is_marked pending n && is_named parent (parents_at nodes n)) 1 0 ≡ 1 = ap (λ b. cond {A = ℕ} b 1 0) here in
      omega arith)
      (λ other. let more = some_above n k (omega arith) test in omega arith)
      (cases_eq k n)

  -- a commit that is listed was counted for each of its parents, and isn't any more
  module _ (id : ℕ) (within : id < length pending) (marked : is_marked pending id ≡ true) where
    unmarked : is_marked (set pending id false) id ≡ false
    unmarked = get_or-set_same pending id false false within

    same_below : (n : ℕ) → n ≤ id
        → pending_children nodes (set pending id false) parent n ≡ pending_children nodes pending parent n
    same_below zero le = refl
    same_below (suc n) le =
        let more = same_below n (omega arith) in
        let test = get_or-set_other pending id n false false (λ same. omega arith) in
        let here : cond {A = ℕ} (is_marked (set pending id false) n && is_named parent (parents_at nodes n)) 1 0
        ≡ cond {A = ℕ} (is_marked pending n && is_named parent (parents_at nodes n)) 1 0 =
        ap (λ b. cond {A = ℕ} (b && is_named parent (parents_at nodes n)) 1 0) test in
        omega arith

    pub count_less : (n : ℕ) → id < n → pending_children nodes (set pending id false) parent n
        + cond {A = ℕ} (is_named parent (parents_at nodes id)) 1 0 ≡ pending_children nodes pending parent n
    count_less zero less = absurd (omega arith)
    count_less (suc n) less = ⊎_elim
        (λ same.
        let below = same_below n (omega arith) in
        let none : cond {A = ℕ} (is_marked (set pending id false) n && is_named parent (parents_at nodes n)) 1 0 ≡ 0 =
        ap (λ b. cond {A = ℕ} (b && is_named parent (parents_at nodes n)) 1 0)
        (subst (λ j. is_marked (set pending id false) j ≡ false) same unmarked) in
        let here : cond {A = ℕ} (is_marked pending n && is_named parent (parents_at nodes n)) 1 0
        ≡ cond {A = ℕ} (is_named parent (parents_at nodes id)) 1 0 =
        subst (λ j. cond {A = ℕ} (is_marked pending j && is_named parent (parents_at nodes j)) 1 0
        ≡ cond {A = ℕ} (is_named parent (parents_at nodes id)) 1 0) same
        (ap (λ b. cond {A = ℕ} (b && is_named parent (parents_at nodes id)) 1 0) marked) in
        omega arith)
        (λ other.
        let more = count_less n (omega arith) in
        let test = get_or-set_other pending id n false false (λ same. other (sym same)) in
        let here : cond {A = ℕ} (is_marked (set pending id false) n && is_named parent (parents_at nodes n)) 1 0
        ≡ cond {A = ℕ} (is_marked pending n && is_named parent (parents_at nodes n)) 1 0 =
        ap (λ b. cond {A = ℕ} (b && is_named parent (parents_at nodes n)) 1 0) test in
        omega arith)
        (cases_eq id n)

-- ---- ready commits

module _ (nodes : Nodes) (selected pending : List Bool) (listed : List ℕ) (is : IsPending selected pending listed) where
  pub ready_from_none : (q : ℕ) → IsMarked selected q → pending_children nodes pending q (length nodes) ≡ 0
      → IsReady (graph_at nodes) (IsMarked selected) listed q
  ready_from_none q marked none = record {
    selected = marked;
    children = λ child chosen parent. ⊎_elim
        (λ (test, unlisted).
        let named = parent_is_named nodes child q parent in
        let no = none_below nodes pending q (length nodes) none child (slice_get_within nodes child (Some parent.node) parent.named) in
        absurd (both_ways (is_marked pending child && is_named q (parents_at nodes child)) no
        (and_from (is_marked pending child) (is_named q (parents_at nodes child)) test named)))
        (λ (test, has). has)
        (is.cases child chosen);
  }

  pub none_from_ready : (q : ℕ) → IsReady (graph_at nodes) (IsMarked selected) listed q
      → pending_children nodes pending q (length nodes) ≡ 0
  none_from_ready q ready = none_from_below nodes pending q (length nodes) (λ k less.
      false_from_ne_true (is_marked pending k && is_named q (parents_at nodes k)) (λ test.
      let parts = and_parts (is_marked pending k) (is_named q (parents_at nodes k)) test in
      let chosen = is.only k parts.0 in
      let has = ready.children k chosen (child_has_parent nodes k q parts.1) in
      ⊎_elim
      (λ (test, unlisted). unlisted has)
      (λ (test, there). both_ways (is_marked pending k) test parts.0)
      (is.cases k chosen)))

-- the first tips are those that are ready before any commit is listed
module _ (nodes : Nodes) (selected : List Bool) (counts : List ℕ) (len : length selected ≡ length nodes)
    (is : IsPending selected selected [])
    (counted : (q : ℕ) → q < length nodes → slice_index counts q ≡ pending_children nodes selected q (length nodes))
  where
    tip_step : (tip : ℕ) (tips seen rest : List ℕ) → tip < length nodes
        → AreFirstReady (graph_at nodes) (IsMarked selected) (tip ∷ seen) tips rest → (b : Bool)
        → (is_marked selected tip && (slice_index counts tip == 0) && not (is_named tip seen)) ≡ b
        → AreFirstReady (graph_at nodes) (IsMarked selected) seen (tip ∷ tips) (cond b (tip ∷ rest) rest)
    tip_step tip tips seen rest within more true test =
        let parts = and_parts (is_marked selected tip && (slice_index counts tip == 0)) (not (is_named tip seen)) test in
        let first = and_parts (is_marked selected tip) (slice_index counts tip == 0) parts.0 in
        let none = sym (counted tip within) ∙ eqb-true (slice_index counts tip) 0 first.1 in
        inl (
          ready_from_none nodes selected selected [] is tip (marked_holds selected tip first.0) none,
          λ was. both_ways (is_named tip seen) (not-true (is_named tip seen) parts.1) (contains_named tip seen was),
          (rest, refl, more),
        )
    tip_step tip tips seen rest within more false test = inr (
      λ (ready, new). both_ways (is_marked selected tip && (slice_index counts tip == 0) && not (is_named tip seen)) test
          (and_from (is_marked selected tip && (slice_index counts tip == 0)) (not (is_named tip seen))
          (and_from (is_marked selected tip) (slice_index counts tip == 0) (marked_tests selected tip ready.selected)
          (eq-eqb (slice_index counts tip) 0 (counted tip within ∙ none_from_ready nodes selected selected [] is tip ready)))
          (not_from_false (is_named tip seen) (false_from_ne_true (is_named tip seen) (λ was. new (named_contains tip seen was))))),
      more,
    )

    pub first_tips_are_ready : (tips seen : List ℕ) → AllByRecursion (λ tip. tip < length nodes) tips
        → AreFirstReady (graph_at nodes) (IsMarked selected) seen tips (first_tips selected counts seen tips)
    first_tips_are_ready [] seen within = refl
    first_tips_are_ready (tip ∷ tips) seen within =
        tip_step tip tips seen (first_tips selected counts (tip ∷ seen) tips) within.0
        (first_tips_are_ready tips (tip ∷ seen) within.1)
        (is_marked selected tip && (slice_index counts tip == 0) && not (is_named tip seen)) refl

-- the freed parents are those that become ready
module _ (nodes : Nodes) (selected pending : List Bool) (counts listed parents : List ℕ)
    (len : length selected ≡ length nodes) (is : IsPending selected pending listed)
    (counted : (q : ℕ) → q < length nodes → is_named q parents ≡ true
    → pending_children nodes pending q (length nodes) + 1 ≡ slice_index counts q)
  where
    freed_step : (p : ℕ) (ps rest : List ℕ) → p < length nodes → is_named p parents ≡ true
        → BecomeReady (graph_at nodes) (IsMarked selected) listed ps rest → (b : Bool)
        → (is_marked selected p && (slice_index counts p == 1) && not (is_named p ps)) ≡ b
        → BecomeReady (graph_at nodes) (IsMarked selected) listed (p ∷ ps) (cond b (p ∷ rest) rest)
    freed_step p ps rest within named more true test =
        let parts = and_parts (is_marked selected p && (slice_index counts p == 1)) (not (is_named p ps)) test in
        let first = and_parts (is_marked selected p) (slice_index counts p == 1) parts.0 in
        let one = eqb-true (slice_index counts p) 1 first.1 in
        let count = counted p within named in
        inl (
          ready_from_none nodes selected pending listed is p (marked_holds selected p first.0) (omega arith),
          λ was. both_ways (is_named p ps) (not-true (is_named p ps) parts.1) (contains_named p ps was),
          (rest, refl, more),
        )
    freed_step p ps rest within named more false test =
        let count = counted p within named in
        inr (
          λ (ready, new).
              let none = none_from_ready nodes selected pending listed is p ready in
              both_ways (is_marked selected p && (slice_index counts p == 1) && not (is_named p ps)) test
              (and_from (is_marked selected p && (slice_index counts p == 1)) (not (is_named p ps))
              (and_from (is_marked selected p) (slice_index counts p == 1) (marked_tests selected p ready.selected)
              (eq-eqb (slice_index counts p) 1 (omega arith)))
              (not_from_false (is_named p ps) (false_from_ne_true (is_named p ps) (λ was. new (named_contains p ps was))))),
          more,
        )

    pub freed_become_ready : (ps : List ℕ) → AllByRecursion (λ p. (p < length nodes) × (is_named p parents ≡ true)) ps
        → BecomeReady (graph_at nodes) (IsMarked selected) listed ps (freed_parents selected counts ps)
    freed_become_ready [] each = refl
    freed_become_ready (p ∷ ps) each =
        freed_step p ps (freed_parents selected counts ps) each.0.0 each.0.1 (freed_become_ready ps each.1)
        (is_marked selected p && (slice_index counts p == 1) && not (is_named p ps)) refl

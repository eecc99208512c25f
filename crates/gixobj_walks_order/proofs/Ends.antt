-- When no commit waits, each selected one is listed, or some are ancestors of themselves.
use Rattle.std.proofs.Common.{◌≡◌, ◌≢◌, ◌++◌, ◌<◌, ◌≤◌, ◌&&◌, ◌∙◌, ℕ, Bool, true, false, cond, zero, suc, List, [], ◌∷◌, Contains, Some, eqb, inr, refl, sym}
use Rattle.std.proofs.Common.{ap, subst, ⊎_elim, arith, length, map, reverse, append_assoc}
use Rattle.std.specs.List.{AllByRecursion, IsDistinct}
use Rattle.std.proofs.lemmas.Bool.{and_parts, both_ways, cases_Bool, cases_eq, ne_eqb}
use Rattle.std.proofs.lemmas.List.{length-reverse, reverse-append, reverse-reverse}
use Rattle.std.proofs.lemmas.List.Elements.{Contains-append_cases, Contains-append_left, Contains-append_right}
use Rattle.std.proofs.lemmas.Map.Steps.{length-le_from_distinct_below}
use Rattle.std.proofs.lemmas.Option.{slice_get_within}
use Rattle.gixobj_walks_graph.proofs.Cycles.{cycle_from_successors}
use Rattle.gixobj_walks_graph.proofs.Paths.{ancestor_from_parent, ancestor_of_ancestor}
use Rattle.gixobj_walks_graph.specs.Graph.{AreOnce, Graph, HasAncestor}
use Rattle.gixobj_walks_graph.specs.Listing.{AreFirstReady, IsListing, Lists, ListsAll, Waiting}
use Rattle.gixobj_walks_graph.specs.Numbered.{IsMarked, Nodes, graph_at, parents_at}
use Rattle.gixobj_walks_graph.specs.declared.order.Order.{Order}
use Rattle.gixobj_walks_order.specs.Counts.{is_marked, is_named, pending_children}
use Rattle.gixobj_walks_order.specs.Listed.{AreMarkedRead, IsCycle, graph_within}
use Rattle.gixobj_walks_order.specs.Progress.{IsFirst, IsStateAt, all_of}
use Rattle.gixobj_walks_order.specs.Queues.{numbers_of, waiting_of}
use Rattle.gixobj_walks_order.specs.declared.queue.Queue.{Queue}
use Rattle.gixobj_walks_order.specs.declared.queue.Key.{Key}
use Rattle.gixobj_walks_order.specs.declared.state.State.{State}
use Rattle.gixobj_walks_order.proofs.Members.{contains_nothing}
use Rattle.gixobj_walks_order.proofs.Ready.{child_has_parent, marked_holds, marked_tests, named_contains, ready_from_none}

-- ---- reversed lists

pub contains_reversed : {V : Type 0} (xs : List V) (x : V) → Contains (reverse xs) x → Contains xs x
contains_reversed [] x has = has
contains_reversed (y ∷ ys) x has = ⊎_elim
    (λ later. Contains-append_right (y ∷ []) ys x (contains_reversed ys x later))
    (λ here. Contains-append_left (y ∷ []) ys x here)
    (Contains-append_cases (reverse ys) (y ∷ []) x (subst (λ l. Contains l x) (reverse-append (y ∷ []) ys) has))

pub reversed_contains : {V : Type 0} (xs : List V) (x : V) → Contains xs x → Contains (reverse xs) x
reversed_contains xs x has = contains_reversed (reverse xs) x (subst (λ l. Contains l x) (sym (reverse-reverse xs)) has)

-- ---- how many are listed

apart_each : (x : ℕ) (xs : List ℕ) → AllByRecursion (λ y. x ≢ y) xs → AllByRecursion (λ y. eqb x y ≡ false) xs
apart_each x [] each = tt
apart_each x (y ∷ ys) each = (ne_eqb x y each.0, apart_each x ys each.1)

distinct_from_once : (xs : List ℕ) → AreOnce xs → IsDistinct eqb xs
unfolding IsDistinct
distinct_from_once [] once = tt
distinct_from_once (x ∷ xs) once = (apart_each x xs once.0, distinct_from_once xs once.1)

module _ (nodes : Nodes) (selected : List Bool) (counts stamps : List ℕ) (pending : List Bool) (queue : Queue) (ids : List ℕ)
    (read : AreMarkedRead nodes selected) (state : IsStateAt nodes selected counts stamps pending queue ids)
  where
    -- no more commits are listed than there are
    pub listed_within : length ids ≤ length nodes
    listed_within =
        let bound = length-le_from_distinct_below (reverse ids) (length nodes) (distinct_from_once (reverse ids) state.progress.listed_once)
        (λ q has.
        let node = read q (state.progress.listed_ready q (named_contains q (reverse ids) has)).selected in
        slice_get_within nodes q (Some node.0) node.1) in
        omega (arith, length-reverse ids, bound)

    pub listed_is_selected : (q : ℕ) → Contains ids q → IsMarked selected q
    listed_is_selected q has = (state.progress.listed_ready q (reversed_contains ids q has)).selected

    pub selected_is_listed : ((k : ℕ) → ¬ IsMarked pending k) → (q : ℕ) → IsMarked selected q → Contains ids q
    selected_is_listed none q chosen = ⊎_elim
        (λ (test, unlisted). absurd (none q (marked_holds pending q test)))
        (λ (test, has). contains_reversed ids q has)
        (state.is_pending.cases q chosen)

    -- ---- commits that are left over

    some_child : (parent n : ℕ) → 0 < pending_children nodes pending parent n
        → (k : ℕ) × ((is_marked pending k && is_named parent (parents_at nodes k)) ≡ true)
    some_child parent zero some = absurd (omega arith)
    some_child parent (suc n) some = ⊎_elim
        (λ here. (n, here))
        (λ none.
        let count : cond {A = ℕ} (is_marked pending n && is_named parent (parents_at nodes n)) 1 0 ≡ 0 =
        ap (λ b. cond {A = ℕ} b 1 0) none in
        some_child parent n (omega arith))
        (cases_Bool (is_marked pending n && is_named parent (parents_at nodes n)))

    module _ (nothing : all_of (waiting_of queue) ≡ []) where
      some_pending : (q : ℕ) → is_marked pending q ≡ true → 0 < pending_children nodes pending q (length nodes)
      some_pending q test = ⊎_elim
          (λ none.
          let chosen = state.is_pending.only q test in
          let unlisted : ¬ Contains (reverse ids) q = ⊎_elim
          (λ (was, not_there). not_there)
          (λ (was, has). absurd (both_ways (is_marked pending q) was test))
          (state.is_pending.cases q chosen) in
          absurd (contains_nothing q (subst (λ l. Contains l q) nothing
          (state.complete q (ready_from_none nodes selected pending (reverse ids) state.is_pending q chosen none) unlisted))))
          (λ some. omega arith)
          (cases_eq (pending_children nodes pending q (length nodes)) 0)

      -- a commit that is left over proves a cycle
      pub left_over_is_cycle : (k : ℕ) → IsMarked pending k → IsCycle (graph_at nodes) (IsMarked selected)
      left_over_is_cycle k left =
          let found = cycle_from_successors
          (λ child parent. HasAncestor (graph_within (graph_at nodes) (IsMarked selected)) parent child)
          (λ v. is_marked pending v ≡ true)
          (length nodes)
          (λ a b c first second. ancestor_of_ancestor (graph_within (graph_at nodes) (IsMarked selected)) c b a second first)
          (λ v test. subst (λ n. v < n) state.pending_len (slice_get_within pending v true (marked_holds pending v test)))
          (λ v test.
          let child = some_child v (length nodes) (some_pending v test) in
          let parts = and_parts (is_marked pending child.0) (is_named v (parents_at nodes child.0)) child.1 in
          let parent = child_has_parent nodes child.0 v parts.1 in (
            child.0,
            ancestor_from_parent (graph_within (graph_at nodes) (IsMarked selected)) child.0 v (record {
              node = parent.node;
              named = (state.is_pending.only child.0 parts.0, parent.named);
              listed = parent.listed;
            }),
            parts.0,
          ))
          k (marked_tests pending k left) in
          record { id = found.0; selected = state.is_pending.only found.0 found.1; ancestor = found.2 }

-- ---- the entire list

pub nothing_waits : (queue : Queue) → queue.dated.keys ≡ [] → queue.found.items ≡ [] → all_of (waiting_of queue) ≡ []
nothing_waits queue dated found =
    ap (λ (ks : List Key). map (λ (key : Key). key.number) ks ++ queue.found.items) dated ∙ found

none_first : {V : Type 0} (G : Graph V) (Selected : V → Type 0) → ((x : V) → ¬ Selected x) → (seen tips : List V)
    → AreFirstReady G Selected seen tips []
none_first G Selected none seen [] = refl
none_first G Selected none seen (tip ∷ tips) =
    inr (λ (ready, new). none tip ready.selected, none_first G Selected none (tip ∷ seen) tips)

pub lists_nothing : {V : Type 0} (G : Graph V) (order : Order) (Selected : V → Type 0) → ((x : V) → ¬ Selected x)
    → (tips : List V) → IsListing G order Selected tips []
lists_nothing G order Selected none tips = record {
  ready = [];
  dated = [];
  first_ready = none_first G Selected none [] tips;
  by_date = refl;
  lists = (refl, refl);
}

pub run_more : {V : Type 0} (G : Graph V) (order : Order) (Selected : V → Type 0) (tips ids : List V) (old new : Waiting V) (id : V)
    → Lists G order Selected (reverse ids) old id new
    → ((rest : List V) → ListsAll G order Selected (reverse ids) old rest → IsListing G order Selected tips (ids ++ rest))
    → (rest : List V) → ListsAll G order Selected (reverse (ids ++ id ∷ [])) new rest
    → IsListing G order Selected tips ((ids ++ id ∷ []) ++ rest)
run_more G order Selected tips ids old new id lists run rest more =
    subst (λ l. IsListing G order Selected tips l) (sym (append_assoc ids (id ∷ []) rest))
    (run (id ∷ rest) (new, lists, subst (λ l. ListsAll G order Selected l new rest) (reverse-append ids (id ∷ [])) more))

pub run_first : (nodes : Nodes) (selected : List Bool) (order : Order) (tips : List ℕ) (state : State)
    → IsFirst nodes selected tips state → (rest : List ℕ)
    → ListsAll (graph_at nodes) order (IsMarked selected) (reverse state.ids.items) (waiting_of state.queue) rest
    → IsListing (graph_at nodes) order (IsMarked selected) tips (state.ids.items ++ rest)
run_first nodes selected order tips state first rest all =
    subst (λ l. IsListing (graph_at nodes) order (IsMarked selected) tips (l ++ rest)) (sym first.ids) (record {
      ready = first.ready;
      dated = numbers_of state.queue.dated;
      first_ready = first.first_ready;
      by_date = first.by_date;
      lists = subst (λ l. ListsAll (graph_at nodes) order (IsMarked selected) [] (record { dated = numbers_of state.queue.dated; found = l }) rest)
          first.found
          (subst (λ l. ListsAll (graph_at nodes) order (IsMarked selected) (reverse l) (waiting_of state.queue) rest) first.ids all);
    })

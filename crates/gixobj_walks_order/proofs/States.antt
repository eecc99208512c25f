-- How the state changes when a commit is listed.
use Rattle.std.proofs.Common.{◌≡◌, ◌++◌, ◌+◌, ◌<◌, ◌∙◌, ℕ, Bool, true, false, cond, List, [], ◌∷◌, Contains, Some, inl, inr, refl, sym, ap, subst, ⊎_elim}
use Rattle.std.proofs.Common.{arith, length, map, reverse, set, slice_index}
use Rattle.std.specs.List.{AllByRecursion}
use Rattle.std.proofs.lemmas.Bool.{and_from, both_ways, cases_eq}
use Rattle.std.proofs.lemmas.List.{get_or-set_other, get_or-set_same, length-append, length-map, length-set, length_push, reverse-append}
use Rattle.std.proofs.lemmas.List.Elements.{All-from_recursion}
use Rattle.std.proofs.lemmas.Option.{slice_get_within, same_Some}
use Rattle.gixobj_walks_graph.specs.Graph.{IsFunctional, IsRead}
use Rattle.gixobj_walks_graph.specs.Listing.{BecomeReady, IsNext, IsReady, Join, Lists}
use Rattle.gixobj_walks_graph.specs.Numbered.{AreParentsKnown, IsMarked, Nodes, graph_at, parents_at}
use Rattle.gixobj_walks_graph.specs.declared.order.Order.{Order}
use Rattle.gixobj_walks_order.specs.Counts.{AreBelow, AreRead, IsPending, freed_parents, is_marked, is_named, pending_children}
use Rattle.gixobj_walks_order.specs.Listed.{AreMarkedRead}
use Rattle.gixobj_walks_order.specs.Progress.{HasEachReady, IsProgress, IsStateAt, all_of}
use Rattle.gixobj_walks_order.specs.Queues.{AreKeys, IsKey, waiting_of}
use Rattle.gixobj_walks_order.specs.declared.queue.Key.{Key}
use Rattle.gixobj_walks_order.specs.declared.queue.Queue.{Queue}
use Rattle.gixobj_walks_order.proofs.Members.{all_inserted_length, contains_cases, contains_here, contains_later, each_contained, each_from_contained}
use Rattle.gixobj_walks_order.proofs.Members.{inserted_itself}
use Rattle.gixobj_walks_order.proofs.Progress.{become_ready_is_ready, complete_more, joined_inserted, next_inserted, progress_more}
use Rattle.gixobj_walks_order.proofs.Ready.{contains_named, count_less, freed_become_ready, named_contains, parents_of_named, some_above}

-- a number names one commit at most
pub graph_at_is_functional : (nodes : Nodes) → IsFunctional (graph_at nodes)
graph_at_is_functional nodes number node other named again =
    same_Some node other (same_Some (Some node) (Some other) (sym named ∙ again))

pub pending_more : (selected pending : List Bool) (listed : List ℕ) (number : ℕ) → IsPending selected pending listed
    → number < length pending → IsPending selected (set pending number false) (number ∷ listed)
pending_more selected pending listed number is within = record {
  cases = λ k chosen. ⊎_elim
      (λ same. inr (
        subst (λ j. is_marked (set pending number false) j ≡ false) (sym same)
            (get_or-set_same pending number false false within),
        subst (λ j. Contains (number ∷ listed) j) (sym same) (contains_here number listed),
      ))
      (λ other. ⊎_elim
      (λ (test, unlisted). inl (
        get_or-set_other pending number k false false other ∙ test,
        λ has. ⊎_elim (λ same. other (sym same)) unlisted (contains_cases number k listed has),
      ))
      (λ (test, has). inr (get_or-set_other pending number k false false other ∙ test, contains_later number k listed has))
      (is.cases k chosen))
      (cases_eq k number);
  only = λ k test. ⊎_elim
      (λ same. absurd (both_ways (is_marked (set pending number false) k)
      (subst (λ j. is_marked (set pending number false) j ≡ false) (sym same) (get_or-set_same pending number false false within)) test))
      (λ other. is.only k (sym (get_or-set_other pending number k false false other) ∙ test))
      (cases_eq k number);
}

pub waiting_len : (queue : Queue) → length (all_of (waiting_of queue)) ≡ length queue.dated.keys + length queue.found.items
waiting_len queue =
    length-append (map (λ (key : Key). key.number) queue.dated.keys) queue.found.items
    ∙ ap (λ n. n + length queue.found.items) (length-map queue.dated.keys (λ (key : Key). key.number))

each_later : (P : Key → Type 0) (popped rest : List Key) → AllByRecursion P (popped ++ rest) → AllByRecursion P rest
each_later P [] rest each = each
each_later P (x ∷ xs) rest each = each_later P xs rest each.1

module _ (nodes : Nodes) (selected : List Bool) (order : Order) (counts stamps : List ℕ) (pending : List Bool) (queue : Queue)
    (ids : List ℕ) (known : AreParentsKnown nodes) (len : length selected ≡ length nodes) (read : AreMarkedRead nodes selected)
    (state : IsStateAt nodes selected counts stamps pending queue ids)
    (number : ℕ) (others : Queue) (next : IsNext (waiting_of queue) number (waiting_of others))
  where
    waits : Contains (all_of (waiting_of queue)) number
    waits = inserted_itself number (all_of (waiting_of others)) (all_of (waiting_of queue))
        (next_inserted (waiting_of queue) number (waiting_of others) next)

    is_ready : IsReady (graph_at nodes) (IsMarked selected) (reverse ids) number
    is_ready = state.progress.ready number waits

    pub next_read : IsRead (graph_at nodes) number
    next_read = read number is_ready.selected

    pub next_within : number < length nodes
    next_within = slice_get_within nodes number (Some next_read.0) next_read.1

    next_pending : is_marked pending number ≡ true
    next_pending = ⊎_elim
        (λ (test, unlisted). test)
        (λ (test, has). absurd (state.progress.unlisted number waits has))
        (state.is_pending.cases number is_ready.selected)

    one_less : length (all_of (waiting_of queue)) ≡ length (all_of (waiting_of others)) + 1
    one_less = all_inserted_length (number ∷ []) (all_of (waiting_of others)) (all_of (waiting_of queue))
        (all_of (waiting_of queue), next_inserted (waiting_of queue) number (waiting_of others) next, refl)

    -- the keys that are left, and the numbers of what joined before
    pub keys_left : (popped : List Key) → queue.dated.keys ≡ popped ++ others.dated.keys
        → AreKeys nodes (length ids + 1 + length others.dated.keys + length others.found.items) others.dated
    keys_left popped were =
        let parts : length (all_of (waiting_of others)) ≡ length others.dated.keys + length others.found.items = waiting_len others in
        let one : length (all_of (waiting_of queue)) ≡ length (all_of (waiting_of others)) + 1 = one_less in
        subst (λ n. AreKeys nodes n others.dated) (omega arith)
        (each_later (λ key. IsKey nodes (length ids + length (all_of (waiting_of queue))) key) popped others.dated.keys
        (subst (λ ks. AllByRecursion (λ key. IsKey nodes (length ids + length (all_of (waiting_of queue))) key) ks) were state.keys))

    parents_are : parents_at nodes number ≡ next_read.0.parents
    parents_are = parents_of_named nodes number next_read.0 next_read.1

    parents_small : AllByRecursion (λ parent. parent < length nodes) (parents_at nodes number)
    parents_small = subst (λ ps. AllByRecursion (λ parent. parent < length nodes) ps) (sym parents_are)
        (known number next_read.0 next_read.1)

    pub parents_below : AreBelow (length nodes) (parents_at nodes number)
    parents_below k less = All-from_recursion (λ parent. parent < length nodes) (parents_at nodes number) parents_small k 0 less

    named_small : (q : ℕ) → is_named q (parents_at nodes number) ≡ true → q < length nodes
    named_small q named = each_contained (λ parent. parent < length nodes) (parents_at nodes number) q parents_small
        (named_contains q (parents_at nodes number) named)

    pub next_is_counted : (q : ℕ) → is_named q (parents_at nodes number) ≡ true → 0 < slice_index counts q
    next_is_counted q named = subst (λ n. 0 < n) (sym (state.counted q (named_small q named)))
        (some_above nodes pending q (length nodes) number next_within
        (and_from (is_marked pending number) (is_named q (parents_at nodes number)) next_pending named))

    less : (q : ℕ) → pending_children nodes (set pending number false) q (length nodes)
        + cond {A = ℕ} (is_named q (parents_at nodes number)) 1 0 ≡ pending_children nodes pending q (length nodes)
    less q = count_less nodes pending q number (subst (λ n. number < n) (sym state.pending_len) next_within) next_pending
        (length nodes) next_within

    pending_now : IsPending selected (set pending number false) (number ∷ reverse ids)
    pending_now = pending_more selected pending (reverse ids) number state.is_pending
        (subst (λ n. number < n) (sym state.pending_len) next_within)

    freed_now : BecomeReady (graph_at nodes) (IsMarked selected) (number ∷ reverse ids) (parents_at nodes number)
        (freed_parents selected counts (parents_at nodes number))
    freed_now = freed_become_ready nodes selected (set pending number false) counts (number ∷ reverse ids)
        (parents_at nodes number) len pending_now
        (λ q small named.
        let count = state.counted q small in
        let taken = less q in
        let one : cond {A = ℕ} (is_named q (parents_at nodes number)) 1 0 ≡ 1 = ap (λ b. cond {A = ℕ} b 1 0) named in
        omega arith)
        (parents_at nodes number)
        (each_from_contained (λ p. (p < length nodes) × (is_named p (parents_at nodes number) ≡ true)) (parents_at nodes number)
        (λ p has. (
          each_contained (λ parent. parent < length nodes) (parents_at nodes number) p parents_small has,
          contains_named p (parents_at nodes number) has,
        )))

    pub freed_are_read : AreRead nodes (freed_parents selected counts (parents_at nodes number))
    freed_are_read = each_from_contained (λ q. IsRead (graph_at nodes) q) (freed_parents selected counts (parents_at nodes number))
        (λ q has. read q (become_ready_is_ready (graph_at nodes) (IsMarked selected) (number ∷ reverse ids)
        (parents_at nodes number) (freed_parents selected counts (parents_at nodes number)) freed_now q has).0.selected)

    module _ (new : Queue)
        (join : Join (graph_at nodes) order (freed_parents selected counts (parents_at nodes number)) (waiting_of others)
        (waiting_of new))
      where
        pub lists_number : Lists (graph_at nodes) order (IsMarked selected) (reverse ids) (waiting_of queue) number (waiting_of new)
        lists_number = record {
          others = waiting_of others;
          node = next_read.0;
          ready = freed_parents selected counts (parents_at nodes number);
          next = next;
          named = next_read.1;
          become_ready = subst (λ ps. BecomeReady (graph_at nodes) (IsMarked selected) (number ∷ reverse ids) ps
              (freed_parents selected counts (parents_at nodes number))) parents_are freed_now;
          join = join;
        }

        reversed : reverse (ids ++ number ∷ []) ≡ number ∷ reverse ids
        reversed = reverse-append ids (number ∷ [])

        pub state_more : (counts' stamps' : List ℕ) → length counts' ≡ length nodes → length stamps' ≡ length nodes
            → ((q : ℕ) → q < length counts → slice_index counts' q
            + cond {A = ℕ} (is_named q (parents_at nodes number)) 1 0 ≡ slice_index counts q)
            → AreBelow (length ids + 1 + 1) stamps'
            → AreKeys nodes (length ids + 1 + length others.dated.keys + length others.found.items
            + length (freed_parents selected counts (parents_at nodes number))) new.dated
            → IsStateAt nodes selected counts' stamps' (set pending number false) new (ids ++ number ∷ [])
        state_more counts' stamps' counts_len stamps_len counted seen keys =
            let ids_len : length (ids ++ number ∷ []) ≡ length ids + 1 = length_push ids number in
            let more_len : length (all_of (waiting_of new)) ≡ length (all_of (waiting_of others))
            + length (freed_parents selected counts (parents_at nodes number)) =
            all_inserted_length (freed_parents selected counts (parents_at nodes number)) (all_of (waiting_of others)) (all_of (waiting_of new))
            (joined_inserted (graph_at nodes) order (freed_parents selected counts (parents_at nodes number)) (waiting_of others) (waiting_of new) join) in
            let parts : length (all_of (waiting_of others)) ≡ length others.dated.keys + length others.found.items = waiting_len others in
            let limit : length ids + 1 + length others.dated.keys + length others.found.items + length (freed_parents selected counts (parents_at nodes number))
            ≡ length (ids ++ number ∷ []) + length (all_of (waiting_of new)) = omega arith in
            record {
              counts_len = counts_len;
              stamps_len = stamps_len;
              pending_len = length-set pending number false ∙ state.pending_len;
              counted = λ q small.
                  let old = state.counted q small in
                  let taken = less q in
                  let now = counted q (omega arith) in
                  omega (arith, old, taken, now);
              unseen = subst (λ n. AreBelow (n + 1) stamps') (sym ids_len) seen;
              keys = subst (λ n. AreKeys nodes n new.dated) limit keys;
              is_pending = subst (λ l. IsPending selected (set pending number false) l) (sym reversed) pending_now;
              progress = subst (λ l. IsProgress (graph_at nodes) (IsMarked selected) l (waiting_of new)) (sym reversed)
                  (progress_more (graph_at nodes) order (IsMarked selected) (reverse ids) (waiting_of queue) number (waiting_of new)
                  lists_number state.progress);
              complete = subst (λ l. HasEachReady (graph_at nodes) (IsMarked selected) l (waiting_of new)) (sym reversed)
                  (complete_more (graph_at nodes) order (IsMarked selected) (reverse ids) (waiting_of queue) number (waiting_of new)
                  lists_number state.progress (graph_at_is_functional nodes) cases_eq state.complete);
            }

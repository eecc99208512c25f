-- The state before the first commit is listed.
use Rattle.std.proofs.Common.{◌≡◌, ◌++◌, ◌+◌, ◌<◌, ℕ, Bool, suc, List, [], ◌∷◌, inl, inr, sym, ap, subst, ⊎_elim, arith, length, replicate, slice_index}
use Rattle.std.specs.List.{AllByRecursion}
use Rattle.std.proofs.lemmas.Bool.{cases_eq}
use Rattle.std.proofs.lemmas.List.{get_or-replicate, length-replicate}
use Rattle.gixobj_walks_graph.specs.Graph.{IsRead}
use Rattle.gixobj_walks_graph.specs.Listing.{AreFirstReady, AreInsertedByDate}
use Rattle.gixobj_walks_graph.specs.Numbered.{IsMarked, Nodes, graph_at}
use Rattle.gixobj_walks_order.specs.Counts.{AreBelow, AreRead, IsPending, first_tips, pending_children}
use Rattle.gixobj_walks_order.specs.Listed.{AreMarkedRead, AreReached}
use Rattle.gixobj_walks_order.specs.Progress.{HasEachReady, IsProgress, IsStateAt, all_of}
use Rattle.gixobj_walks_order.specs.Queues.{AreKeys, numbers_of, waiting_of}
use Rattle.gixobj_walks_order.specs.declared.queue.Queue.{Queue}
use Rattle.gixobj_walks_order.proofs.Members.{all_inserted_length, contains_nothing, each_from_contained}
use Rattle.gixobj_walks_order.proofs.Progress.{all_inserted_dated, complete_first, first_ready_is_ready, progress_first}
use Rattle.gixobj_walks_order.proofs.Ready.{first_tips_are_ready, marked_holds, marked_tests}

pub each_below : (bound : ℕ) (xs : List ℕ) → AreBelow bound xs → AllByRecursion (λ x. x < bound) xs
each_below bound [] below = tt
each_below bound (x ∷ xs) below =
    (below 0 (omega arith), each_below bound xs (λ k less. below (suc k) (omega arith)))

below_replicate : (n : ℕ) → AreBelow 1 (replicate n 0)
below_replicate n k less =
    let small : k < n = subst (λ m. k < m) (length-replicate n 0) less in
    subst (λ x. x < 1) (sym (get_or-replicate n k 0 0 small)) (omega arith)

pub all_pending : (selected : List Bool) → IsPending selected selected []
all_pending selected = record {
  cases = λ k chosen. inl (marked_tests selected k chosen, contains_nothing k);
  only = λ k test. marked_holds selected k test;
}

module _ (nodes : Nodes) (selected : List Bool) (tips counts ready : List ℕ) (len : length selected ≡ length nodes)
    (below : AreBelow (length nodes) tips) (read : AreMarkedRead nodes selected)
    (counted : (q : ℕ) → q < length nodes → slice_index counts q ≡ pending_children nodes selected q (length nodes))
    (is : ready ≡ first_tips selected counts [] tips)
  where
    pub first : AreFirstReady (graph_at nodes) (IsMarked selected) [] tips ready
    first = subst (λ l. AreFirstReady (graph_at nodes) (IsMarked selected) [] tips l) (sym is)
        (first_tips_are_ready nodes selected counts len (all_pending selected) counted tips [] (each_below (length nodes) tips below))

    pub first_read : AreRead nodes ready
    first_read = each_from_contained (λ q. IsRead (graph_at nodes) q) ready
        (λ q has. read q (first_ready_is_ready (graph_at nodes) (IsMarked selected) [] tips ready first q has).0.selected)

    module _ (reached : AreReached nodes selected tips) (queue : Queue) (counts_len : length counts ≡ length nodes)
        (inserted : AreInsertedByDate (graph_at nodes) ready [] (numbers_of queue.dated)) (found : queue.found.items ≡ [])
        (keys : AreKeys nodes (length ready) queue.dated)
      where
        pub state_first : IsStateAt nodes selected counts (replicate (length nodes) 0) selected queue []
        state_first =
            let more : length (numbers_of queue.dated ++ []) ≡ 0 + length ready =
            all_inserted_length ready [] (numbers_of queue.dated ++ []) (all_inserted_dated (graph_at nodes) ready [] (numbers_of queue.dated) [] inserted) in
            let all : length (all_of (waiting_of queue)) ≡ length (numbers_of queue.dated ++ []) =
            ap (λ l. length (numbers_of queue.dated ++ l)) found in
            record {
              counts_len = counts_len;
              stamps_len = length-replicate (length nodes) 0;
              pending_len = len;
              counted = counted;
              unseen = below_replicate (length nodes);
              keys = subst (λ n. AreKeys nodes n queue.dated) (omega arith) keys;
              is_pending = all_pending selected;
              progress = subst (λ l. IsProgress (graph_at nodes) (IsMarked selected) [] (record { dated = numbers_of queue.dated; found = l }))
                  (sym found)
                  (progress_first (graph_at nodes) (IsMarked selected) tips ready (numbers_of queue.dated) first inserted);
              complete = subst (λ l. HasEachReady (graph_at nodes) (IsMarked selected) [] (record { dated = numbers_of queue.dated; found = l }))
                  (sym found)
                  (complete_first (graph_at nodes) (IsMarked selected) tips ready (numbers_of queue.dated) first inserted cases_eq
                  (λ x chosen. ⊎_elim (λ tip. inl tip) (λ child. inr (child.child, child.chosen, child.parent)) (reached x chosen)));
            }

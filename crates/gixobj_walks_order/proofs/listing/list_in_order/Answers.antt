use Rattle.std.proofs.Common.{◌≡◌, ◌∙◌, ◌+◌, ◌≤◌, ◌++◌, ℕ, Bool, List, [], ap, append-nil, arith, length, map, reverse, subst, sym, true}
use Rattle.std.proofs.lemmas.Bool.{MatchBool-at_false, MatchBool-at_true, both_ways}
use Rattle.std.proofs.lemmas.List.{length_push}
use Rattle.gixobj_walks_graph.specs.Listing.{IsListing, ListsAll}
use Rattle.gixobj_walks_graph.specs.Numbered.{IsMarked, graph_at}
use Rattle.gixobj_walks_order.specs.Progress.{IsLast, ListsNext, all_of}
use Rattle.gixobj_walks_order.specs.Queues.{waiting_of}
use Rattle.gixobj_walks_order.specs.declared.queue.Key.{Key}
use Rattle.gixobj_walks_order.proofs.Ends.{left_over_is_cycle, listed_is_selected, listed_within, lists_nothing, nothing_waits, run_first, run_more}
use Rattle.gixobj_walks_order.proofs.Ends.{selected_is_listed}
use Rattle.gixobj_walks_order.proofs.listing.list_in_order.Goals as goal

pub returns-then-not-is_any_marked-clause-listing : goal.returns-then-not-is_any_marked-clause-listing
returns-then-not-is_any_marked-clause-listing c =
    subst (λ (l : List ℕ). IsListing (graph_at c.args.nodes.now) c.args.order (IsMarked c.args.selected.now) c.args.tips.now l)
    (sym c.new.ensures.items)
    (lists_nothing (graph_at c.args.nodes.now) c.args.order (IsMarked c.args.selected.now)
    (λ x marked. let found : c.is_any_marked.result ≡ true = c.is_any_marked.ensures.1 (x, marked) in cc) c.args.tips.now)

pub loop-state-smaller : goal.loop-state-smaller
loop-state-smaller c =
    let old = c.loop-state.state in
    let new = c.list_next.new.state in
    let nodes = c.args.nodes.now in
    let more = MatchBool-at_true (ListsNext nodes c.args.selected.now c.args.order old new) (IsLast old new) c.if-branch.true
    c.in_ok-list_next.ensures.listed in
    let ids_len : length new.ids.items ≡ length old.ids.items + 1 = ap length more.ids ∙ length_push old.ids.items more.number in
    let bound : length new.ids.items ≤ length nodes =
    listed_within nodes c.args.selected.now new.counts.items new.stamps.items new.pending.items new.queue new.ids.items
    c.requires.read c.in_ok-list_next.ensures.state in
    omega arith

pub loop-state-preserved : goal.loop-state-preserved
loop-state-preserved c =
    let old = c.loop-state.state in
    let new = c.list_next.new.state in
    let nodes = c.args.nodes.now in
    let selected = c.args.selected.now in
    let more = MatchBool-at_true (ListsNext nodes selected c.args.order old new) (IsLast old new) c.if-branch.true
    c.in_ok-list_next.ensures.listed in
    record {
      is_state = c.in_ok-list_next.ensures.state;
      run = subst (λ (l : List ℕ). (rest : List ℕ)
          → ListsAll (graph_at nodes) c.args.order (IsMarked selected) (reverse l) (waiting_of new.queue) rest
          → IsListing (graph_at nodes) c.args.order (IsMarked selected) c.args.tips.now (l ++ rest))
          (sym more.ids)
          (run_more (graph_at nodes) c.args.order (IsMarked selected) c.args.tips.now old.ids.items (waiting_of old.queue)
          (waiting_of new.queue) more.number more.lists c.loop-state.invariant.run);
    }

pub loop-state-init : goal.loop-state-init
loop-state-init c = record {
  is_state = c.in_ok-state.ensures.state;
  run = run_first c.args.nodes.now c.args.selected.now c.args.order c.args.tips.now c.in_ok-state.state c.in_ok-state.ensures.first;
}

pub returns-then-is_any_marked-clause-error : goal.returns-then-is_any_marked-clause-error
returns-then-is_any_marked-clause-error c =
    let old = c.loop-state.state in
    let new = c.list_next.new.state in
    let nodes = c.args.nodes.now in
    let selected = c.args.selected.now in
    let last = MatchBool-at_false (ListsNext nodes selected c.args.order old new) (IsLast old new) c.if-branch.false
    c.in_ok-list_next.ensures.listed in
    let nothing : all_of (waiting_of new.queue) ≡ [] = ap all_of last.waiting ∙ nothing_waits old.queue last.dated last.found in
    let left = c.is_any_marked-2.ensures.0 c.if-is_any_marked.true in
    left_over_is_cycle nodes selected new.counts.items new.stamps.items new.pending.items new.queue new.ids.items
    c.requires.read c.in_ok-list_next.ensures.state nothing left.0
    (subst (λ (l : List Bool). IsMarked l left.0) c.deref.ensures.value left.1)

pub returns-clause-listing : goal.returns-clause-listing
returns-clause-listing c =
    let old = c.loop-state.state in
    let new = c.list_next.new.state in
    let nodes = c.args.nodes.now in
    let selected = c.args.selected.now in
    let last = MatchBool-at_false (ListsNext nodes selected c.args.order old new) (IsLast old new) c.if-branch.false
    c.in_ok-list_next.ensures.listed in
    subst (λ (l : List ℕ). IsListing (graph_at nodes) c.args.order (IsMarked selected) c.args.tips.now l)
    (append-nil old.ids.items ∙ sym last.ids)
    (c.loop-state.invariant.run [] (ap (λ (ks : List Key). map (λ (key : Key). key.number) ks) last.dated, last.found))

pub returns-clause-exact : goal.returns-clause-exact
returns-clause-exact c =
    let new = c.list_next.new.state in
    let nodes = c.args.nodes.now in
    let selected = c.args.selected.now in
    λ number. (
      listed_is_selected nodes selected new.counts.items new.stamps.items new.pending.items new.queue new.ids.items
          c.requires.read c.in_ok-list_next.ensures.state number,
      selected_is_listed nodes selected new.counts.items new.stamps.items new.pending.items new.queue new.ids.items
          c.requires.read c.in_ok-list_next.ensures.state
          (λ k marked.
          let found : c.is_any_marked-2.result ≡ true =
          c.is_any_marked-2.ensures.1 (k, subst (λ (l : List Bool). IsMarked l k) (sym c.deref.ensures.value) marked) in
          both_ways c.is_any_marked-2.result c.if-is_any_marked.false found)
          number,
    )

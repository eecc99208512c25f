use Rattle.std.proofs.Common.{◌≡◌, ◌∙◌, ◌+◌, ◌<◌, ℕ, List, ap, arith, cond, false, length, set, slice_index, subst, sym, true}
use Rattle.std.specs.Vec.{with_items}
use Rattle.std.proofs.lemmas.List.{length_push, with_items_is}
use Rattle.gixobj_walks_graph.specs.Listing.{Join}
use Rattle.gixobj_walks_graph.specs.Numbered.{graph_at, parents_at}
use Rattle.gixobj_walks_order.specs.Progress.{IsStateAt}
use Rattle.gixobj_walks_order.specs.Queues.{AreKeys, waiting_of}
use Rattle.gixobj_walks_order.specs.Counts.{AreBelow, AreRead, freed_parents, is_named}
use Rattle.gixobj_walks_order.proofs.States.{freed_are_read, keys_left, lists_number, next_is_counted, next_within, parents_below, state_more}
use Rattle.gixobj_walks_order.proofs.state.list_next.Goals as goal

pub index_mut-requires : goal.index_mut-requires
index_mut-requires c =
    let r = c.requires in
    let s = c.args.state.now in
    let within = next_within c.args.nodes.now c.args.selected.now c.args.order s.counts.items s.stamps.items s.pending.items s.queue s.ids.items
    r.known r.lengths r.read r.state c.in-Some.number c.take_next.new.queue c.in-Some.ensures.next in
    omega (arith, within, r.state.pending_len)

pub parents_of-parents-requires : goal.parents_of-parents-requires
parents_of-parents-requires c =
    let r = c.requires in
    let s = c.args.state.now in
    next_within c.args.nodes.now c.args.selected.now c.args.order s.counts.items s.stamps.items s.pending.items s.queue s.ids.items
    r.known r.lengths r.read r.state c.in-Some.number c.take_next.new.queue c.in-Some.ensures.next

pub release_parents-requires-clause-known : goal.release_parents-requires-clause-known
release_parents-requires-clause-known c =
    let r = c.requires in
    let s = c.args.state.now in
    let below = parents_below c.args.nodes.now c.args.selected.now c.args.order s.counts.items s.stamps.items s.pending.items s.queue s.ids.items
    r.known r.lengths r.read r.state c.in-Some.number c.take_next.new.queue c.in-Some.ensures.next in
    subst (λ (ps : List ℕ). AreBelow (length c.deref_mut.result.now) ps) (sym c.parents_of-parents.ensures)
    (subst (λ n. AreBelow n (parents_at c.args.nodes.now c.in-Some.number))
    (sym r.state.counts_len ∙ ap length (sym c.deref_mut.ensures.value)) below)

pub release_parents-requires-clause-counted : goal.release_parents-requires-clause-counted
release_parents-requires-clause-counted c =
    let r = c.requires in
    let s = c.args.state.now in
    let counted = next_is_counted c.args.nodes.now c.args.selected.now c.args.order s.counts.items s.stamps.items s.pending.items s.queue s.ids.items
    r.known r.lengths r.read r.state c.in-Some.number c.take_next.new.queue c.in-Some.ensures.next in
    λ q named. subst (λ (xs : List ℕ). 0 < slice_index xs q) (sym c.deref_mut.ensures.value)
    (counted q (subst (λ (ps : List ℕ). is_named q ps ≡ true) c.parents_of-parents.ensures named))

pub join-requires-clause-read : goal.join-requires-clause-read
join-requires-clause-read c =
    let r = c.requires in
    let s = c.args.state.now in
    let read = freed_are_read c.args.nodes.now c.args.selected.now c.args.order s.counts.items s.stamps.items s.pending.items s.queue s.ids.items
    r.known r.lengths r.read r.state c.in-Some.number c.take_next.new.queue c.in-Some.ensures.next in
    let same : c.deref-3.result.now ≡ freed_parents c.args.selected.now s.counts.items (parents_at c.args.nodes.now c.in-Some.number) =
    c.deref-3.ensures.value ∙ c.in_ok-ready.ensures.ready
    ∙ ap (λ (xs : List ℕ). freed_parents c.args.selected.now xs c.parents_of-parents.result.now) c.deref_mut.ensures.value
    ∙ ap (λ (ps : List ℕ). freed_parents c.args.selected.now s.counts.items ps) c.parents_of-parents.ensures in
    subst (λ (xs : List ℕ). AreRead c.args.nodes.now xs) (sym same) read

pub join-requires-clause-keys : goal.join-requires-clause-keys
join-requires-clause-keys c =
    let r = c.requires in
    let s = c.args.state.now in
    let keys = keys_left c.args.nodes.now c.args.selected.now c.args.order s.counts.items s.stamps.items s.pending.items s.queue s.ids.items
    r.known r.lengths r.read r.state c.in-Some.number c.take_next.new.queue c.in-Some.ensures.next
    c.in-Some.ensures.keys.0 c.in-Some.ensures.keys.1 in
    let ids_len : length c.push.new.self.items ≡ length s.ids.items + 1 =
    ap length c.in_ok-push.ensures.items ∙ length_push s.ids.items c.in-Some.number in
    let counted_ids : length c.deref.result.now ≡ length c.push.new.self.items = ap length c.deref.ensures.value in
    let counted_found : length c.deref-2.result.now ≡ length c.take_next.new.queue.found.items = ap length c.deref-2.ensures.value in
    let counted_keys : c.len.result ≡ length c.take_next.new.queue.dated.keys = c.len.ensures.len in
    let first : c.count.result ≡ length c.deref.result.now = c.count.ensures.exact in
    let second : c.count-2.result ≡ length c.deref-2.result.now = c.count-2.ensures.exact in
    subst (λ n. AreKeys c.args.nodes.now n c.take_next.new.queue.dated) (omega arith) keys

pub returns-clause-state : goal.returns-clause-state
returns-clause-state c =
    let r = c.requires in
    let s = c.args.state.now in
    let same : c.deref-3.result.now ≡ freed_parents c.args.selected.now s.counts.items (parents_at c.args.nodes.now c.in-Some.number) =
    c.deref-3.ensures.value ∙ c.in_ok-ready.ensures.ready
    ∙ ap (λ (xs : List ℕ). freed_parents c.args.selected.now xs c.parents_of-parents.result.now) c.deref_mut.ensures.value
    ∙ ap (λ (ps : List ℕ). freed_parents c.args.selected.now s.counts.items ps) c.parents_of-parents.ensures in
    let ids_len : length c.push.new.self.items ≡ length s.ids.items + 1 =
    ap length c.in_ok-push.ensures.items ∙ length_push s.ids.items c.in-Some.number in
    let counted_ids : length c.deref.result.now ≡ length c.push.new.self.items = ap length c.deref.ensures.value in
    let counted_found : length c.deref-2.result.now ≡ length c.take_next.new.queue.found.items = ap length c.deref-2.ensures.value in
    let counted_keys : c.len.result ≡ length c.take_next.new.queue.dated.keys = c.len.ensures.len in
    let first : c.count.result ≡ length c.deref.result.now = c.count.ensures.exact in
    let second : c.count-2.result ≡ length c.deref-2.result.now = c.count-2.ensures.exact in
    let joined = subst
    (λ (xs : List ℕ). Join (graph_at c.args.nodes.now) c.args.order xs (waiting_of c.take_next.new.queue) (waiting_of c.join.new.queue))
    same c.in_ok-join.ensures.joined in
    let counts = c.release_parents.new.counts in
    let stamps = c.release_parents.new.stamps in
    let counts_len : length counts ≡ length c.args.nodes.now =
    c.release_parents.auto.counts ∙ ap length c.deref_mut.ensures.value ∙ r.state.counts_len in
    let stamps_len : length stamps ≡ length c.args.nodes.now =
    c.release_parents.auto.stamps ∙ ap length c.deref_mut-2.ensures.value ∙ r.state.stamps_len in
    let stamp_is : c.len-stamp.result ≡ length s.ids.items + 1 = omega arith in
    let new_len : length c.deref-3.result.now
    ≡ length (freed_parents c.args.selected.now s.counts.items (parents_at c.args.nodes.now c.in-Some.number)) = ap length same in
    let more = state_more c.args.nodes.now c.args.selected.now c.args.order s.counts.items s.stamps.items s.pending.items s.queue s.ids.items
    r.known r.lengths r.read r.state c.in-Some.number c.take_next.new.queue c.in-Some.ensures.next
    c.join.new.queue joined counts stamps counts_len stamps_len
    (λ q small. subst
    (λ (xs : List ℕ). slice_index counts q + cond {A = ℕ} (is_named q (parents_at c.args.nodes.now c.in-Some.number)) 1 0 ≡ slice_index xs q)
    c.deref_mut.ensures.value
    (subst (λ (ps : List ℕ). slice_index counts q + cond {A = ℕ} (is_named q ps) 1 0 ≡ slice_index c.deref_mut.result.now q)
    c.parents_of-parents.ensures
    (c.in_ok-ready.ensures.counts q (subst (λ (xs : List ℕ). q < length xs) (sym c.deref_mut.ensures.value) small))))
    (subst (λ n. AreBelow (n + 1) stamps) stamp_is c.in_ok-ready.ensures.seen)
    (subst (λ n. AreKeys c.args.nodes.now n c.join.new.queue.dated) (omega arith) c.in_ok-join.ensures.keys) in
    subst (λ (xs : List ℕ). IsStateAt c.args.nodes.now c.args.selected.now xs (with_items s.stamps stamps).items
    (set s.pending.items c.in-Some.number false) c.join.new.queue c.push.new.self.items)
    (sym (with_items_is s.counts counts (counts_len ∙ sym r.state.counts_len ∙ sym s.counts.ok.0)))
    (subst (λ (xs : List ℕ). IsStateAt c.args.nodes.now c.args.selected.now counts xs
    (set s.pending.items c.in-Some.number false) c.join.new.queue c.push.new.self.items)
    (sym (with_items_is s.stamps stamps (stamps_len ∙ sym r.state.stamps_len ∙ sym s.stamps.ok.0)))
    (subst (λ (xs : List ℕ). IsStateAt c.args.nodes.now c.args.selected.now counts stamps
    (set s.pending.items c.in-Some.number false) c.join.new.queue xs)
    (sym c.in_ok-push.ensures.items) more))

pub returns-clause-listed : goal.returns-clause-listed
returns-clause-listed c =
    let r = c.requires in
    let s = c.args.state.now in
    let same : c.deref-3.result.now ≡ freed_parents c.args.selected.now s.counts.items (parents_at c.args.nodes.now c.in-Some.number) =
    c.deref-3.ensures.value ∙ c.in_ok-ready.ensures.ready
    ∙ ap (λ (xs : List ℕ). freed_parents c.args.selected.now xs c.parents_of-parents.result.now) c.deref_mut.ensures.value
    ∙ ap (λ (ps : List ℕ). freed_parents c.args.selected.now s.counts.items ps) c.parents_of-parents.ensures in
    record {
      number = c.in-Some.number;
      ids = c.in_ok-push.ensures.items;
      lists = lists_number c.args.nodes.now c.args.selected.now c.args.order s.counts.items s.stamps.items s.pending.items s.queue s.ids.items
          r.known r.lengths r.read r.state c.in-Some.number c.take_next.new.queue c.in-Some.ensures.next
          c.join.new.queue (subst
          (λ (xs : List ℕ). Join (graph_at c.args.nodes.now) c.args.order xs (waiting_of c.take_next.new.queue) (waiting_of c.join.new.queue))
          same c.in_ok-join.ensures.joined);
    }

use Rattle.std.proofs.Common.{◌≡◌, ◌∙◌, ℕ, List, [], Bool, ap, arith, length, map, subst, sym}
use Rattle.gixobj_walks_graph.specs.Listing.{AreInsertedByDate}
use Rattle.gixobj_walks_graph.specs.Numbered.{graph_at}
use Rattle.gixobj_walks_order.specs.Counts.{AreRead, first_tips}
use Rattle.gixobj_walks_order.specs.Progress.{IsStateAt}
use Rattle.gixobj_walks_order.specs.Queues.{AreKeys, numbers_of}
use Rattle.gixobj_walks_order.specs.declared.queue.Key.{Key}
use Rattle.gixobj_walks_order.proofs.Begins.{first, first_read, state_first}
use Rattle.gixobj_walks_order.proofs.state.begin.Goals as goal

pub insert_all_by_date-requires-clause-read : goal.insert_all_by_date-requires-clause-read
insert_all_by_date-requires-clause-read c =
    let r = c.requires in
    let ready = c.in_ok-ready.ready.items in
    let is : ready ≡ first_tips c.args.selected.now c.in_ok-counts.counts.items [] c.args.tips.now =
    c.in_ok-ready.ensures ∙ ap (λ (xs : List ℕ). first_tips c.args.selected.now xs [] c.args.tips.now) c.deref.ensures.value in
    subst (λ (xs : List ℕ). AreRead c.args.nodes.now xs) (sym c.deref-2.ensures.value)
    (first_read c.args.nodes.now c.args.selected.now c.args.tips.now c.in_ok-counts.counts.items ready r.lengths r.tips r.read
    c.in_ok-counts.ensures.counted is)

pub returns-clause-state : goal.returns-clause-state
returns-clause-state c =
    let r = c.requires in
    let nodes = c.args.nodes.now in
    let ready = c.in_ok-ready.ready.items in
    let counts = c.in_ok-counts.counts.items in
    let is : ready ≡ first_tips c.args.selected.now counts [] c.args.tips.now =
    c.in_ok-ready.ensures ∙ ap (λ (xs : List ℕ). first_tips c.args.selected.now xs [] c.args.tips.now) c.deref.ensures.value in
    let new = c.insert_all_by_date.new.dated in
    let none : numbers_of c.new-dated.result ≡ [] = ap (λ (ks : List Key). map (λ (key : Key). key.number) ks) c.new-dated.ensures.empty in
    let inserted = subst (λ (xs : List ℕ). AreInsertedByDate (graph_at nodes) xs [] (numbers_of new)) c.deref-2.ensures.value
    (subst (λ (xs : List ℕ). AreInsertedByDate (graph_at nodes) c.deref-2.result.now xs (numbers_of new)) none
    c.in_ok-insert_all_by_date.ensures.inserted) in
    let len : length c.deref-2.result.now ≡ length ready = ap length c.deref-2.ensures.value in
    let keys = subst (λ n. AreKeys nodes n new) (omega arith) c.in_ok-insert_all_by_date.ensures.keys in
    let first_state = state_first nodes c.args.selected.now c.args.tips.now counts ready r.lengths r.tips r.read
    c.in_ok-counts.ensures.counted is r.reached (record { dated = new; found = c.new.result }) c.in_ok-counts.ensures.len
    inserted c.new.ensures.items keys in
    subst (λ (xs : List ℕ). IsStateAt nodes c.args.selected.now counts c.in_ok-vec.field-0.items c.in_ok-from_slice.field-0.items
    (record { dated = new; found = c.new.result }) xs)
    (sym c.new-2.ensures.items)
    (subst (λ (xs : List Bool). IsStateAt nodes c.args.selected.now counts c.in_ok-vec.field-0.items xs
    (record { dated = new; found = c.new.result }) [])
    (sym c.in_ok-from_slice.ensures.items)
    (subst (λ (xs : List ℕ). IsStateAt nodes c.args.selected.now counts xs c.args.selected.now
    (record { dated = new; found = c.new.result }) [])
    (sym (c.in_ok-vec.ensures.items_if_clones_equal (λ y clone. clone))) first_state))

pub returns-clause-first : goal.returns-clause-first
returns-clause-first c =
    let r = c.requires in
    let nodes = c.args.nodes.now in
    let ready = c.in_ok-ready.ready.items in
    let counts = c.in_ok-counts.counts.items in
    let is : ready ≡ first_tips c.args.selected.now counts [] c.args.tips.now =
    c.in_ok-ready.ensures ∙ ap (λ (xs : List ℕ). first_tips c.args.selected.now xs [] c.args.tips.now) c.deref.ensures.value in
    let new = c.insert_all_by_date.new.dated in
    let none : numbers_of c.new-dated.result ≡ [] = ap (λ (ks : List Key). map (λ (key : Key). key.number) ks) c.new-dated.ensures.empty in
    record {
      ready = ready;
      first_ready = first nodes c.args.selected.now c.args.tips.now counts ready r.lengths r.tips r.read c.in_ok-counts.ensures.counted is;
      by_date = subst (λ (xs : List ℕ). AreInsertedByDate (graph_at nodes) xs [] (numbers_of new)) c.deref-2.ensures.value
          (subst (λ (xs : List ℕ). AreInsertedByDate (graph_at nodes) c.deref-2.result.now xs (numbers_of new)) none
          c.in_ok-insert_all_by_date.ensures.inserted);
      found = c.new.ensures.items;
      ids = c.new-2.ensures.items;
    }

-- The selected commits are read, so that they can be listed, and their names are listed as they are.
use Rattle.std.proofs.Common.{◌∙◌, ◌<◌, ◌↔◌, ℕ, [], Contains, ap, length, subst, sym}
use Rattle.std.proofs.lemmas.Result.{err_from_is_err_and}
use Rattle.std.specs.List.{AllByRecursion, AllZip}
use Rattle.gixobj_hash.specs.declared.hash.object_id.ObjectId.TheVariants.{Sha1}
use Rattle.gixobj_walks_graph.specs.Listing.{IsListing}
use Rattle.gixobj_walks_graph.specs.Numbered.{IsMarked, Nodes, graph_at}
use Rattle.gixobj_walks_graph.specs.Graph.{IsIncluded}
use Rattle.gixobj_walks_graph.specs.Walks.{IsWalk}
use Rattle.gixobj_walks_marks.specs.Settled.{IsSettledWalk}
use Rattle.gixobj_walks_order.specs.Listed.{AreMarkedRead, AreReached, IsListError}
use Rattle.gixobj_walks.specs.Machine.{WalkView, given_graph, names_of, wanted_of}
use Rattle.gixobj_walks.specs.Named.{Names, graph_of}
use Rattle.gixobj_walks.specs.WalkErrors.{IsWalkListError}
use Rattle.gixobj_walks.proofs.WalkLists.{below_of_marks, cycle_of_list, error_of_list, marked_are_read, marked_are_reached, marks_of_selected, walk_in_each}
use Rattle.gixobj_walks.proofs.WalkLists.{walk_of_list}
use Rattle.gixobj_walks.proofs.walk.Walk.list.Goals as goal

pub list_in_order-requires-clause-read : goal.list_in_order-requires-clause-read
list_in_order-requires-clause-read c =
    let end = subst (λ (w : WalkView). IsSettledWalk (given_graph w) w.tips w.hidden) (sym c.self.view_is) c.in-None.ensures.settled in
    subst (λ (ns : Nodes). AreMarkedRead ns c.deref.result.now) (sym c.nodes.ensures.nodes)
    (subst (λ ms. AreMarkedRead c.self.inside.known.reading.nodes ms) (sym c.deref.ensures.value)
    (marked_are_read c.self.inside.known.names c.self.inside.known.reading c.self.inside.tips.items c.self.inside.hidden.items c.self.inside.is_settled
    c.self.invariant end c.in_ok-chosen.chosen.items
    (marks_of_selected c.self.inside.known.reading.nodes c.self.inside.tips.items c.self.inside.hidden.items
    c.self.inside.known.reading.left c.self.inside.known.reading.right c.left.result.now c.right.result.now c.in_ok-chosen.chosen.items
    c.left.ensures.left c.right.ensures.right c.self.invariant.left c.self.invariant.right c.in_ok-chosen.ensures.selected)))

pub list_in_order-requires-clause-reached : goal.list_in_order-requires-clause-reached
list_in_order-requires-clause-reached c =
    let end = subst (λ (w : WalkView). IsSettledWalk (given_graph w) w.tips w.hidden) (sym c.self.view_is) c.in-None.ensures.settled in
    subst (λ (ns : Nodes). AreReached ns c.deref.result.now c.deref-2.result.now) (sym c.nodes.ensures.nodes)
    (subst (λ ms. AreReached c.self.inside.known.reading.nodes ms c.deref-2.result.now) (sym c.deref.ensures.value)
    (subst (λ ts. AreReached c.self.inside.known.reading.nodes c.in_ok-chosen.chosen.items ts) (sym c.deref-2.ensures.value)
    (marked_are_reached c.self.inside.known.names c.self.inside.known.reading c.self.inside.tips.items c.self.inside.hidden.items c.self.inside.is_settled
    c.self.invariant end c.in_ok-chosen.chosen.items
    (marks_of_selected c.self.inside.known.reading.nodes c.self.inside.tips.items c.self.inside.hidden.items
    c.self.inside.known.reading.left c.self.inside.known.reading.right c.left.result.now c.right.result.now c.in_ok-chosen.chosen.items
    c.left.ensures.left c.right.ensures.right c.self.invariant.left c.self.invariant.right c.in_ok-chosen.ensures.selected))))

pub returns-in_err-numbers-clause-error : goal.returns-in_err-numbers-clause-error
returns-in_err-numbers-clause-error c =
    let p = err_from_is_err_and c.from_residual-in_err-numbers.result c.from_residual-in_err-numbers.ensures.1 in
    let is = subst (λ (ns : Nodes). IsListError ns c.deref.result.now c.in_err-numbers.field-0.0) c.nodes.ensures.nodes
    c.in_err-numbers.ensures.error in
    let walk : WalkView = record {
      tips = names_of c.self.inside.known.names c.self.inside.tips.items;
      hidden = names_of c.self.inside.known.names c.self.inside.hidden.items;
      ids = c.self.inside.known.names;
      nodes = c.self.inside.known.reading.nodes;
      wanted = wanted_of c.self.inside.is_settled c.self.inside.known.names c.self.inside.known.reading.next;
    } in
    rw (p.1, p.2) (subst (λ (w : WalkView). IsWalkListError w c.in_err-numbers.field-0.0) c.self.view_is
    (error_of_list walk c.self.inside.known.reading.nodes c.deref.result.now c.in_err-numbers.field-0.0
    (cycle_of_list c.self.inside.known.names c.self.inside.known.reading c.self.inside.tips.items c.self.inside.hidden.items c.self.inside.is_settled
    c.self.invariant c.deref.result.now) is))

pub ids_of-requires : goal.ids_of-requires
ids_of-requires c = subst (λ ns. AllByRecursion (λ number. number < length c.self.inside.known.names) ns) (sym c.deref-3.ensures.value)
    (below_of_marks c.in_ok-numbers.numbers.items c.deref.result.now (length c.self.inside.known.names) c.in_ok-numbers.ensures.exact
    (ap length c.deref.ensures.value ∙ c.in_ok-chosen.ensures.length ∙ ap length c.left.ensures.left ∙ c.left.ensures.length
    ∙ c.self.invariant.lengths))

pub returns-clause-walk : goal.returns-clause-walk
returns-clause-walk c =
    let end = subst (λ (w : WalkView). IsSettledWalk (given_graph w) w.tips w.hidden) (sym c.self.view_is) c.in-None.ensures.settled in
    let zip = subst (λ ns. AllZip (Names c.self.inside.known.names) ns c.in_ok-ids_of.field-0.items) c.deref-3.ensures.value c.in_ok-ids_of.ensures in
    let exact = subst (λ ms. (number : ℕ) → Contains c.in_ok-numbers.numbers.items number ↔ IsMarked ms number) c.deref.ensures.value
    c.in_ok-numbers.ensures.exact in
    let listing = subst (λ (ns : Nodes). IsListing (graph_at ns) c.args.order (IsMarked c.in_ok-chosen.chosen.items)
    c.self.inside.tips.items c.in_ok-numbers.numbers.items) c.nodes.ensures.nodes
    (subst (λ ms. IsListing (graph_at c.nodes.result.now) c.args.order (IsMarked ms) c.self.inside.tips.items
    c.in_ok-numbers.numbers.items) c.deref.ensures.value
    (subst (λ ts. IsListing (graph_at c.nodes.result.now) c.args.order (IsMarked c.deref.result.now) ts
    c.in_ok-numbers.numbers.items) c.deref-2.ensures.value c.in_ok-numbers.ensures.listing)) in
    subst (λ (w : WalkView). IsWalk (given_graph w) c.args.order w.tips w.hidden c.in_ok-ids_of.field-0.items) c.self.view_is
    (walk_of_list c.self.inside.known.names c.self.inside.known.reading c.self.inside.tips.items c.self.inside.hidden.items c.self.inside.is_settled
    c.self.invariant end c.in_ok-chosen.chosen.items
    (marks_of_selected c.self.inside.known.reading.nodes c.self.inside.tips.items c.self.inside.hidden.items
    c.self.inside.known.reading.left c.self.inside.known.reading.right c.left.result.now c.right.result.now c.in_ok-chosen.chosen.items
    c.left.ensures.left c.right.ensures.right c.self.invariant.left c.self.invariant.right c.in_ok-chosen.ensures.selected)
    (Sha1 []) c.args.order c.in_ok-numbers.numbers.items c.in_ok-ids_of.field-0.items zip listing exact)

pub returns-clause-exact : goal.returns-clause-exact
returns-clause-exact c = λ commits included acyclic.
    let end = subst (λ (w : WalkView). IsSettledWalk (given_graph w) w.tips w.hidden) (sym c.self.view_is) c.in-None.ensures.settled in
    let zip = subst (λ ns. AllZip (Names c.self.inside.known.names) ns c.in_ok-ids_of.field-0.items) c.deref-3.ensures.value c.in_ok-ids_of.ensures in
    let exact = subst (λ ms. (number : ℕ) → Contains c.in_ok-numbers.numbers.items number ↔ IsMarked ms number) c.deref.ensures.value
    c.in_ok-numbers.ensures.exact in
    let listing = subst (λ (ns : Nodes). IsListing (graph_at ns) c.args.order (IsMarked c.in_ok-chosen.chosen.items)
    c.self.inside.tips.items c.in_ok-numbers.numbers.items) c.nodes.ensures.nodes
    (subst (λ ms. IsListing (graph_at c.nodes.result.now) c.args.order (IsMarked ms) c.self.inside.tips.items
    c.in_ok-numbers.numbers.items) c.deref.ensures.value
    (subst (λ ts. IsListing (graph_at c.nodes.result.now) c.args.order (IsMarked c.deref.result.now) ts
    c.in_ok-numbers.numbers.items) c.deref-2.ensures.value c.in_ok-numbers.ensures.listing)) in
    subst (λ (w : WalkView). IsWalk (graph_of commits) c.args.order w.tips w.hidden c.in_ok-ids_of.field-0.items) c.self.view_is
    (walk_in_each c.self.inside.known.names c.self.inside.known.reading c.self.inside.tips.items c.self.inside.hidden.items c.self.inside.is_settled
    c.self.invariant end commits
    (subst (λ (w : WalkView). IsIncluded (given_graph w) (graph_of commits)) (sym c.self.view_is) included) acyclic
    c.args.order c.in_ok-ids_of.field-0.items
    (walk_of_list c.self.inside.known.names c.self.inside.known.reading c.self.inside.tips.items c.self.inside.hidden.items c.self.inside.is_settled
    c.self.invariant end c.in_ok-chosen.chosen.items
    (marks_of_selected c.self.inside.known.reading.nodes c.self.inside.tips.items c.self.inside.hidden.items
    c.self.inside.known.reading.left c.self.inside.known.reading.right c.left.result.now c.right.result.now c.in_ok-chosen.chosen.items
    c.left.ensures.left c.right.ensures.right c.self.invariant.left c.self.invariant.right c.in_ok-chosen.ensures.selected)
    (Sha1 []) c.args.order c.in_ok-numbers.numbers.items c.in_ok-ids_of.field-0.items zip listing exact))

use Rattle.std.proofs.Common.{◌≡◌, ◌∙◌, Bool, List, OnOk, ap, length, subst, sym}
use Rattle.gixobj_walks_graph.specs.Numbered.{IsClosed}
use Rattle.gixobj_walks_marks.specs.Readings.{AddsStart}
use Rattle.gixobj_walks_marks.proofs.Kept.{marks_start_at, slice_is_written}
use Rattle.gixobj_walks_marks.proofs.Marked.{on_ok, on_ok_then}
use Rattle.gixobj_walks_marks.proofs.passing.mark_start.Goals as goal

pub returns-clause-added : goal.returns-clause-added
returns-clause-added c =
    let lengths : length c.mark_reached.new.marked ≡ length c.args.marked.now.items =
    c.mark_reached.auto.marked ∙ ap length c.deref_mut.ensures.value in
    subst (λ (xs : List Bool). OnOk c.mark_reached.result
    (AddsStart c.args.nodes.now c.args.start c.args.marked.now.items xs))
    (sym (slice_is_written c.args.marked.now.len c.args.marked.now.items c.mark_reached.new.marked
    c.args.marked.now.ok.0 lengths))
    (on_ok_then c.mark_reached.result
    (marks_start_at c.args.nodes.now c.args.start c.args.marked.now.items c.deref_mut.result.now
    c.mark_reached.new.marked c.deref_mut.ensures.value)
    c.mark_reached.ensures.reached)

pub returns-clause-closed : goal.returns-clause-closed
returns-clause-closed c =
    let lengths : length c.mark_reached.new.marked ≡ length c.args.marked.now.items =
    c.mark_reached.auto.marked ∙ ap length c.deref_mut.ensures.value in
    subst (λ (xs : List Bool). OnOk c.mark_reached.result (IsClosed c.args.nodes.now xs))
    (sym (slice_is_written c.args.marked.now.len c.args.marked.now.items c.mark_reached.new.marked
    c.args.marked.now.ok.0 lengths))
    c.mark_reached.ensures.closed

pub returns-clause-lengths : goal.returns-clause-lengths
returns-clause-lengths c =
    let lengths : length c.mark_reached.new.marked ≡ length c.args.marked.now.items =
    c.mark_reached.auto.marked ∙ ap length c.deref_mut.ensures.value in
    on_ok c.mark_reached.result
    (ap length (slice_is_written c.args.marked.now.len c.args.marked.now.items c.mark_reached.new.marked
    c.args.marked.now.ok.0 lengths) ∙ lengths)

use Rattle.std.proofs.Common.{◌≡◌, ◌∙◌, ◌<◌, Bool, List, OnOk, Some, true, ap, arith, length, refl, subst, sym}
use Rattle.std.proofs.lemmas.Bool.{false≢true}
use Rattle.std.proofs.lemmas.Option.{same_Some, slice_get_read}
use Rattle.gixobj_walks_graph.specs.Numbered.{IsMarked}
use Rattle.gixobj_walks_marks.specs.Readings.{PassesMark}
use Rattle.gixobj_walks_marks.specs.Spreading.{MarksReached}
use Rattle.gixobj_walks_marks.proofs.Kept.{mark_passes, no_mark_passes, slice_is_written}
use Rattle.gixobj_walks_marks.proofs.Marked.{on_ok_then}
use Rattle.gixobj_walks_marks.proofs.passing.pass_mark.Goals as goal

pub returns-then-index-clause-marks : goal.returns-then-index-clause-marks
returns-then-index-clause-marks c =
    let inside : c.args.number < length c.args.marked.now.items =
    omega (arith, c.requires.number, c.requires.lengths) in
    let is : IsMarked c.args.marked.now.items c.args.number =
    slice_get_read c.args.marked.now.items (length c.args.marked.now.items) c.args.number c.index.result.now refl
    inside c.index.ensures
    ∙ ap Some c.if-index.true in
    let lengths : length c.mark_all_reached.new.marked ≡ length c.args.marked.now.items =
    c.mark_all_reached.auto.marked ∙ ap length c.deref_mut.ensures.value in
    subst (λ (xs : List Bool). OnOk c.mark_all_reached.result
    (PassesMark c.args.nodes.now c.args.number c.args.parents.now c.args.marked.now.items xs))
    (sym (slice_is_written c.args.marked.now.len c.args.marked.now.items c.mark_all_reached.new.marked
    c.args.marked.now.ok.0 lengths))
    (on_ok_then c.mark_all_reached.result
    (mark_passes c.args.nodes.now c.args.number c.args.parents.now c.args.marked.now.items
    c.mark_all_reached.new.marked is)
    (subst (λ (xs : List Bool). OnOk c.mark_all_reached.result
    (MarksReached c.args.nodes.now c.args.parents.now xs c.mark_all_reached.new.marked))
    c.deref_mut.ensures.value c.mark_all_reached.ensures.reached))

pub returns-else-index-clause-marks : goal.returns-else-index-clause-marks
returns-else-index-clause-marks c =
    let inside : c.args.number < length c.args.marked.now.items =
    omega (arith, c.requires.number, c.requires.lengths) in
    let none : ¬ IsMarked c.args.marked.now.items c.args.number = λ is. false≢true (sym c.if-index.false
    ∙ same_Some c.index.result.now true
    (sym (slice_get_read c.args.marked.now.items (length c.args.marked.now.items) c.args.number
    c.index.result.now refl inside c.index.ensures)
    ∙ is)) in
    no_mark_passes c.args.nodes.now c.args.number c.args.parents.now c.args.marked.now.items none

-- The imports of the steps, or of those before the one that fails.
use Rattle.std.proofs.Common.{◌∙◌, ℕ, ap, arith, refl, take}
use Rattle.std.proofs.lemmas.List.{length-take}
use Rattle.gix_object.specs.Imports.{before}
use Rattle.gixobj_examples_edits.proofs.Archived.{done_len_le_steps_len, is_archived}
use Rattle.gixobj_examples_edits.proofs.archive.archive.Goals as goal

pub returns-in-Ok-clause-archived : goal.returns-in-Ok-clause-archived
returns-in-Ok-clause-archived g c =
    let done = c.in-Ok.ensures {u = tt} in
    is_archived c.args.importer.now.hash (g.S.Store.objects c.args.importer.now.editor.store) (g.S.Store.objects c.import_all.new.importer.editor.store)
    c.args.steps.now c.in-Ok.imported.items (done.commits c.requires.new) (done.files c.requires.new) c.args.steps.now c.deref.result.now refl
    c.deref.ensures.value c.consistent_import_has_table.ensures

pub slice_bounds-before-end : goal.slice_bounds-before-end
slice_bounds-before-end g c =
    let stopped = c.in-Err.ensures {u = tt} in
    let short = done_len_le_steps_len c.args.importer.now.hash c.args.steps.now c.in-Err.stopped.done.items
    (g.S.Store.objects c.import_all.new.importer.editor.store) (stopped.commits_done c.requires.new) in
    omega (arith, short, c.in-Err.stopped.done.ok.0, length-take c.len.result c.args.steps.now)

pub returns-in-Err-clause-archived_before : goal.returns-in-Err-clause-archived_before
returns-in-Err-clause-archived_before g c =
    let stopped = c.in-Err.ensures {u = tt} in
    is_archived c.args.importer.now.hash (g.S.Store.objects c.args.importer.now.editor.store) (g.S.Store.objects c.import_all.new.importer.editor.store)
    (before c.in-Err.stopped.done.items c.args.steps.now) c.in-Err.stopped.done.items (stopped.commits_done c.requires.new) (stopped.files_done c.requires.new)
    (take c.len.result c.args.steps.now) c.deref-in-Err.result.now
    (ap (λ (n : ℕ). take n c.args.steps.now) (c.len.ensures ∙ c.in-Err.stopped.done.ok.0)) c.deref-in-Err.ensures.value
    c.consistent_import_has_table-in-Err.ensures

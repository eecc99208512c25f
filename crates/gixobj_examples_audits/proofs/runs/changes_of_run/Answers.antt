-- The changes between the stored root and the written one.
use Rattle.std.proofs.Common.{◌∙◌, List, Result, ap, subst}
use Rattle.std.specs.Fn.{FnReturnsAt}
use Rattle.std.specs.Prelude.{IsFalse}
use Rattle.gix_object.specs.Entries.{EntryView}
use Rattle.gix_object.specs.Files.{is_null}
use Rattle.gix_object.specs.State.{new_state}
use Rattle.gix_object.specs.Stores.{StoreModel}
use Rattle.gix_object.specs.editor.reply.EditReply.TheVariants as edit_reply
use Rattle.gix_object.specs.hash.hash.object_id.ObjectId.{ObjectId}
use Rattle.gixobj_listings.specs.Differences.{HasChanges, IsChangesError}
use Rattle.gixobj_examples_audits.proofs.RunChanged.{changed_by_run, run_error_of_no_write, run_on_root}
use Rattle.gixobj_examples_audits.proofs.runs.changes_of_run.Goals as goal

pub returns-in-Err-run_and_write-clause-error : goal.returns-in-Err-run_and_write-clause-error
returns-in-Err-run_and_write-clause-error g c =
    let model : StoreModel g.row.S.Denot = record { objects = g.S.Store.objects; may_fail = g.S.Store.may_fail } in
    let answers = λ (tree : List EntryView) (answer : Result ObjectId g.row.E.Denot). FnReturnsAt g.F.Fn c.args.out tree answer in
    let begun = c.new-editor.ensures.state ∙ ap (new_state c.in-Ok.tree c.args.store) c.kind.ensures in
    run_error_of_no_write model answers c.args.store c.args.root c.args.commands.items c.args.depth c.new-editor.result c.run_and_write.new.editor c.in-Ok.tree
    (c.in-Ok.ensures {u = tt}).found begun c.in-Err-run_and_write.error (c.in-Err-run_and_write.ensures {u = tt}).error

pub returns-in-Ok-changes-clause-changed : goal.returns-in-Ok-changes-clause-changed
returns-in-Ok-changes-clause-changed g c =
    let model : StoreModel g.row.S.Denot = record { objects = g.S.Store.objects; may_fail = g.S.Store.may_fail } in
    let answers = λ (tree : List EntryView) (answer : Result ObjectId g.row.E.Denot). FnReturnsAt g.F.Fn c.args.out tree answer in
    let new = c.new-editor.ensures in
    let begun = new.state ∙ ap (new_state c.in-Ok.tree c.args.store) c.kind.ensures in
    let ran = c.in-Ok-run_and_write.ensures {u = tt} in
    let it = c.in-Ok-run_and_write.it in
    changed_by_run model answers c.store_has_tree_map.ensures c.stored_root_has_files.ensures c.tree_changes_are_step_changes.ensures c.args.store
    c.args.root c.args.commands.items c.args.depth c.new-editor.result c.run_and_write.new.editor c.in-Ok.tree (c.in-Ok.ensures {u = tt}).found begun
    (record { replies = it.0; written = it.1; changes = c.in-Ok-changes.changes }) ran.run new.files new.has_bases ran.files ran.filled ran.stored
    (subst (λ (s : g.row.S.Denot). IsFalse (is_null c.args.root) → IsFalse (is_null it.1.id)
    → HasChanges (g.S.Store.objects s) c.args.depth c.args.root it.1.id c.in-Ok-changes.changes.items) c.store_mut.ensures.value
    (c.in-Ok-changes.ensures {u = tt}).changes)

pub returns-clause-error : goal.returns-clause-error
returns-clause-error g c =
    let model : StoreModel g.row.S.Denot = record { objects = g.S.Store.objects; may_fail = g.S.Store.may_fail } in
    let answers = λ (tree : List EntryView) (answer : Result ObjectId g.row.E.Denot). FnReturnsAt g.F.Fn c.args.out tree answer in
    let begun = c.new-editor.ensures.state ∙ ap (new_state c.in-Ok.tree c.args.store) c.kind.ensures in
    let ran = c.in-Ok-run_and_write.ensures {u = tt} in
    let it = c.in-Ok-run_and_write.it in (
      it.0.items,
      it.1,
      c.run_and_write.new.editor,
      run_on_root model answers c.args.store c.args.root c.args.commands.items c.new-editor.result c.run_and_write.new.editor c.in-Ok.tree
          (c.in-Ok.ensures {u = tt}).found begun it.0.items (edit_reply.Written it.1) ran.run,
      subst (λ (s : g.row.S.Denot). IsChangesError (g.S.Store.objects s) (g.S.Store.may_fail s) c.args.depth c.args.root it.1.id c.in-Err-changes.error)
          c.store_mut.ensures.value (c.in-Err-changes.ensures {u = tt}).error,
    )

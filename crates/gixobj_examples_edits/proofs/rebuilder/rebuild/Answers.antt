-- The root of a write of the run of commands on an editor without files.
use Rattle.std.proofs.Common.{◌∙◌, List, Result, ap}
use Rattle.std.specs.Fn.{FnReturnsAt}
use Rattle.gix_object.specs.Entries.{EntryView}
use Rattle.gix_object.specs.State.{new_state}
use Rattle.gix_object.specs.Stores.{StoreModel}
use Rattle.gix_object.specs.hash.hash.object_id.ObjectId.{ObjectId}
use Rattle.gixobj_examples_edits.proofs.RebuiltFiles.{error_of_result, rebuilt_of_result}
use Rattle.gixobj_examples_edits.proofs.rebuilder.rebuild.Goals as goal

pub returns-clause-files : goal.returns-clause-files
returns-clause-files g c =
    let model : StoreModel g.row.S.Denot = record { objects = g.S.Store.objects; may_fail = g.S.Store.may_fail } in
    let answers = λ (tree : List EntryView) (answer : Result ObjectId g.row.E.Denot). FnReturnsAt g.F.Fn c.args.out tree answer in
    let new = c.new-editor.ensures in
    let begun = new.state ∙ ap (λ (root : List EntryView). new_state root c.args.store c.args.object_hash) c.empty.ensures in
    let ran = c.in_ok-replies.ensures {u = tt} in
    rebuilt_of_result model answers c.args.store c.args.object_hash c.args.commands.items c.new-editor.result c.run.new.editor c.in_ok-replies.replies.items
    c.args.position begun ran.replies _ c.empty.ensures new.files new.has_bases ran.files_of_root c.deref.result.now c.deref-2.result.now c.deref-3.result.now
    c.deref.ensures.value c.deref-2.ensures.value c.deref-3.ensures.value c.consistent_run_has_table.ensures c.run_table_agrees_with_writes.ensures
    c.id_written.result c.id_written.ensures.found

pub returns-clause-error : goal.returns-clause-error
returns-clause-error g c =
    let model : StoreModel g.row.S.Denot = record { objects = g.S.Store.objects; may_fail = g.S.Store.may_fail } in
    let answers = λ (tree : List EntryView) (answer : Result ObjectId g.row.E.Denot). FnReturnsAt g.F.Fn c.args.out tree answer in
    let new = c.new-editor.ensures in
    let begun = new.state ∙ ap (λ (root : List EntryView). new_state root c.args.store c.args.object_hash) c.empty.ensures in
    error_of_result model answers c.args.store c.args.object_hash c.args.commands.items c.new-editor.result c.run.new.editor c.in_ok-replies.replies.items
    c.args.position begun (c.in_ok-replies.ensures {u = tt}).replies c.deref-3.result.now c.deref-3.ensures.value c.id_written.result c.id_written.ensures.error
    c.id_written.ensures.none

-- Two writes of the run of commands on an editor without files.
use Rattle.std.proofs.Common.{◌∙◌, List, Result, ap}
use Rattle.std.specs.Fn.{FnReturnsAt}
use Rattle.gix_object.specs.Entries.{EntryView}
use Rattle.gix_object.specs.State.{new_state}
use Rattle.gix_object.specs.hash.hash.object_id.ObjectId.{ObjectId}
use Rattle.gixobj_examples_edits.proofs.Rebuilt.{is_reported, none_at_first, none_at_second}
use Rattle.gixobj_examples_edits.proofs.rebuilder.wrote_the_same.Goals as goal
use Rattle.gix_object.specs.Stores.{StoreModel}

pub returns-in-Err-clause-error : goal.returns-in-Err-clause-error
returns-in-Err-clause-error g c =
    let model : StoreModel g.row.S.Denot = record { objects = g.S.Store.objects; may_fail = g.S.Store.may_fail } in
    let answers = λ (tree : List EntryView) (answer : Result ObjectId g.row.E.Denot). FnReturnsAt g.F.Fn c.args.out tree answer in
    let new = c.new-editor.ensures in
    let begun = new.state ∙ ap (λ (root : List EntryView). new_state root c.args.store c.args.object_hash) c.empty.ensures in
    none_at_first model answers c.args.store c.args.object_hash c.args.commands.items c.new-editor.result c.run.new.editor c.in_ok-replies.replies.items
    c.deref.result.now c.args.position c.args.other c.in-Err.error begun
    (c.in_ok-replies.ensures {u = tt}).replies c.deref.ensures.value c.in-Err.ensures.error c.in-Err.ensures.none

pub returns-in-Err-id_written-clause-error : goal.returns-in-Err-id_written-clause-error
returns-in-Err-id_written-clause-error g c =
    let model : StoreModel g.row.S.Denot = record { objects = g.S.Store.objects; may_fail = g.S.Store.may_fail } in
    let answers = λ (tree : List EntryView) (answer : Result ObjectId g.row.E.Denot). FnReturnsAt g.F.Fn c.args.out tree answer in
    let new = c.new-editor.ensures in
    let begun = new.state ∙ ap (λ (root : List EntryView). new_state root c.args.store c.args.object_hash) c.empty.ensures in
    none_at_second model answers c.args.store c.args.object_hash c.args.commands.items c.new-editor.result c.run.new.editor c.in_ok-replies.replies.items
    c.deref.result.now c.deref-2.result.now c.args.position c.args.other c.in-Ok.first c.in-Err-id_written.error begun
    (c.in_ok-replies.ensures {u = tt}).replies c.deref.ensures.value c.deref-2.ensures.value c.in-Ok.ensures.found c.in-Err-id_written.ensures.error
    c.in-Err-id_written.ensures.none

pub returns-clause-compared : goal.returns-clause-compared
returns-clause-compared g c =
    let model : StoreModel g.row.S.Denot = record { objects = g.S.Store.objects; may_fail = g.S.Store.may_fail } in
    let answers = λ (tree : List EntryView) (answer : Result ObjectId g.row.E.Denot). FnReturnsAt g.F.Fn c.args.out tree answer in
    let new = c.new-editor.ensures in
    let begun = new.state ∙ ap (λ (root : List EntryView). new_state root c.args.store c.args.object_hash) c.empty.ensures in
    is_reported model answers c.args.store c.args.object_hash c.args.commands.items c.new-editor.result c.run.new.editor c.in_ok-replies.replies.items
    c.deref.result.now c.deref-2.result.now c.args.position c.args.other c.are_same.result c.in-Ok.first c.in-Ok-id_written.second begun
    (c.in_ok-replies.ensures {u = tt}).replies (c.in_ok-replies.ensures {u = tt}).one_id c.deref.ensures.value c.deref-2.ensures.value c.in-Ok.ensures.found
    c.in-Ok-id_written.ensures.found c.are_same.ensures

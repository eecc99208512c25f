-- The first reply other than that to an accepted edit.
use Rattle.std.proofs.Common.{List, Result}
use Rattle.std.specs.Fn.{FnReturnsAt}
use Rattle.gix_object.specs.Entries.{EntryView}
use Rattle.gix_object.specs.hash.hash.object_id.ObjectId.{ObjectId}
use Rattle.gixobj_examples_edits.proofs.ImportCauses.{cause_of_decided}
use Rattle.gixobj_examples_edits.proofs.Importing.{decides, is_by_an_edit, is_found}
use Rattle.gixobj_examples_edits.proofs.importer.deciding_reply.Goals as goal
use Rattle.gix_object.specs.Stores.{StoreModel}

pub unreachable-requires : goal.unreachable-requires
unreachable-requires g c =
    let model : StoreModel g.row.S.Denot = record { objects = g.S.Store.objects; may_fail = g.S.Store.may_fail } in
    let answers = λ (tree : List EntryView) (answer : Result ObjectId g.row.E.Denot). FnReturnsAt g.F.Fn c.args.out tree answer in
    is_found model answers c.args.editor.now c.run.new.editor c.args.edits.items c.in_ok-commands.commands.items c.in_ok-replies.replies.items
    c.deref.result.now
    c.requires.no_write (c.in_ok-commands.ensures {u = tt}) (c.in_ok-replies.ensures {u = tt}).replies c.deref.ensures.value (c.in_default.ensures {u = tt})

pub unreachable-requires-in_default-remove : goal.unreachable-requires-in_default-remove
unreachable-requires-in_default-remove g c =
    let model : StoreModel g.row.S.Denot = record { objects = g.S.Store.objects; may_fail = g.S.Store.may_fail } in
    let answers = λ (tree : List EntryView) (answer : Result ObjectId g.row.E.Denot). FnReturnsAt g.F.Fn c.args.out tree answer in
    is_by_an_edit model answers c.args.editor.now c.run.new.editor c.args.edits.items c.in_ok-commands.commands.items c.in_ok-replies.replies.items
    c.deref.result.now c.in-Some.index c.remove.result
    c.requires.no_write (c.in_ok-commands.ensures {u = tt}) (c.in_ok-replies.ensures {u = tt}).replies c.deref.ensures.value
    (c.in-Some.ensures {u = tt}) c.remove.ensures.value c.in_default-remove.not-Edit

pub returns-clause-decides : goal.returns-clause-decides
returns-clause-decides g c =
    let model : StoreModel g.row.S.Denot = record { objects = g.S.Store.objects; may_fail = g.S.Store.may_fail } in
    let answers = λ (tree : List EntryView) (answer : Result ObjectId g.row.E.Denot). FnReturnsAt g.F.Fn c.args.out tree answer in
    decides model answers c.args.editor.now c.run.new.editor c.args.edits.items c.in_ok-commands.commands.items c.in_ok-replies.replies.items c.deref.result.now
    c.in-Some.index c.in-Edit.reply
    c.requires.no_write (c.in_ok-commands.ensures {u = tt}) (c.in_ok-replies.ensures {u = tt}).replies c.deref.ensures.value (c.in-Some.ensures {u = tt})
    (c.in-Edit.ensures {u = tt}).value

pub returns-clause-cause : goal.returns-clause-cause
returns-clause-cause g c =
    let model : StoreModel g.row.S.Denot = record { objects = g.S.Store.objects; may_fail = g.S.Store.may_fail } in
    let answers = λ (tree : List EntryView) (answer : Result ObjectId g.row.E.Denot). FnReturnsAt g.F.Fn c.args.out tree answer in
    cause_of_decided model g.S.Keep.keep_errors answers c.store_has_tree_map.ensures c.args.editor.now c.run.new.editor c.args.edits.items
    c.in_ok-commands.commands.items c.in_ok-replies.replies.items c.deref.result.now c.in-Some.index c.in-Edit.reply
    c.requires.no_write (c.in_ok-commands.ensures {u = tt}) (c.in_ok-replies.ensures {u = tt}).replies (c.in_ok-replies.ensures {u = tt}).causes
    c.deref.ensures.value (c.in-Some.ensures {u = tt}) (c.in-Edit.ensures {u = tt}).value

use Rattle.std.proofs.Common.{List, Result}
use Rattle.std.specs.Fn.{FnReturnsAt}
use Rattle.gixobj_hash.specs.declared.hash.object_id.ObjectId.{ObjectId}
use Rattle.gixobj_store.specs.Stores.{StoreModel}
use Rattle.gixobj_tree_entries.specs.Entries.{EntryView}
use Rattle.gixobj_editor.specs.Commands.{at_cursor}
use Rattle.gixobj_editor.proofs.Causes.{reply_to_has_keep_cause}
use Rattle.gixobj_editor.proofs.Replied.{leaf_removal_replied, removal_replied, upsert_replied}
use Rattle.gixobj_editor.proofs.by_cursor.do_edit_by.Goals as goal

pub returns-in-Upsert-clause-reply : goal.returns-in-Upsert-clause-reply
returns-in-Upsert-clause-reply g c =
    let model : StoreModel g.row.S.Denot = record { objects = g.S.Store.objects; may_fail = g.S.Store.may_fail } in
    let answers = λ (tree : List EntryView) (answer : Result ObjectId g.row.E.Denot). FnReturnsAt g.F.Fn c.args.out.now tree answer in
    let call = c.try_upsert in
    rw (c.in-Upsert.is, c.reply_to_edit.ensures.reply)
    (upsert_replied model answers (at_cursor c.args.cursor.now.editor.now.prefix) c.args.cursor.now.editor.now call.new.self.editor.now c.in-Upsert.path
    c.deref.result.now c.deref.ensures.value c.in-Upsert.kind c.in-Upsert.id call.result
    call.ensures.upserted call.ensures.after_error call.ensures.error call.ensures.unchanged)

pub returns-in-Remove-clause-reply : goal.returns-in-Remove-clause-reply
returns-in-Remove-clause-reply g c =
    let model : StoreModel g.row.S.Denot = record { objects = g.S.Store.objects; may_fail = g.S.Store.may_fail } in
    let answers = λ (tree : List EntryView) (answer : Result ObjectId g.row.E.Denot). FnReturnsAt g.F.Fn c.args.out.now tree answer in
    let call = c.try_remove in
    rw (c.in-Remove.is, c.reply_to_edit-in-Remove.ensures.reply)
    (removal_replied model answers (at_cursor c.args.cursor.now.editor.now.prefix) c.args.cursor.now.editor.now call.new.self.editor.now c.in-Remove.path
    c.deref-in-Remove.result.now c.deref-in-Remove.ensures.value call.result
    call.ensures.removed call.ensures.after_error call.ensures.error)

pub returns-in-RemoveLeaf-clause-reply : goal.returns-in-RemoveLeaf-clause-reply
returns-in-RemoveLeaf-clause-reply g c =
    let model : StoreModel g.row.S.Denot = record { objects = g.S.Store.objects; may_fail = g.S.Store.may_fail } in
    let answers = λ (tree : List EntryView) (answer : Result ObjectId g.row.E.Denot). FnReturnsAt g.F.Fn c.args.out.now tree answer in
    let call = c.try_remove_leaf in
    rw (c.in-RemoveLeaf.is, c.reply_to_edit-in-RemoveLeaf.ensures.reply)
    (leaf_removal_replied model answers (at_cursor c.args.cursor.now.editor.now.prefix) c.args.cursor.now.editor.now call.new.self.editor.now
    c.in-RemoveLeaf.path c.deref-in-RemoveLeaf.result.now c.deref-in-RemoveLeaf.ensures.value call.result
    call.ensures.removed call.ensures.after_error call.ensures.error)

pub returns-in-Upsert-clause-cause : goal.returns-in-Upsert-clause-cause
returns-in-Upsert-clause-cause g c =
    reply_to_has_keep_cause g.S.Store.objects g.S.Keep.keep_errors c.args.cursor.now.editor.now.store c.try_upsert.result c.reply_to_edit.result
    c.reply_to_edit.ensures.reply

pub returns-in-Remove-clause-cause : goal.returns-in-Remove-clause-cause
returns-in-Remove-clause-cause g c =
    reply_to_has_keep_cause g.S.Store.objects g.S.Keep.keep_errors c.args.cursor.now.editor.now.store c.try_remove.result
    c.reply_to_edit-in-Remove.result c.reply_to_edit-in-Remove.ensures.reply

pub returns-in-RemoveLeaf-clause-cause : goal.returns-in-RemoveLeaf-clause-cause
returns-in-RemoveLeaf-clause-cause g c =
    reply_to_has_keep_cause g.S.Store.objects g.S.Keep.keep_errors c.args.cursor.now.editor.now.store c.try_remove_leaf.result
    c.reply_to_edit-in-RemoveLeaf.result c.reply_to_edit-in-RemoveLeaf.ensures.reply

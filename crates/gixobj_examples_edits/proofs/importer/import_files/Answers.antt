-- The files and the store after the write that follows the edits, and the reply that decides.
use Rattle.std.proofs.Common.{List, Result, subst}
use Rattle.std.specs.Fn.{FnReturnsAt}
use Rattle.gix_object.specs.Causes.{HasKeepCause}
use Rattle.gix_object.specs.Entries.{EntryView}
use Rattle.gix_object.specs.editor.reply.EditReply.{EditReply}
use Rattle.gix_object.specs.editor.reply.EditReply.TheVariants as edit_reply
use Rattle.gix_object.specs.hash.hash.object_id.ObjectId.{ObjectId}
use Rattle.gixobj_examples_edits.proofs.Imported.{all_kept, bases_remaining, decides_of_eq, files_remaining, named_files, write_done}
use Rattle.gixobj_examples_edits.proofs.importer.import_files.Goals as goal
use Rattle.gix_object.specs.Stores.{StoreModel}

pub returns-in-Written-clause-root : goal.returns-in-Written-clause-root
returns-in-Written-clause-root g c =
    let model : StoreModel g.row.S.Denot = record { objects = g.S.Store.objects; may_fail = g.S.Store.may_fail } in
    let answers = λ (tree : List EntryView) (answer : Result ObjectId g.row.E.Denot). FnReturnsAt g.F.Fn c.args.out tree answer in
    let written = write_done model answers c.store_has_tree_map.ensures c.args.editor.now c.deciding_reply.new.editor c.args.edits.items c.in_ok-index.index
    c.in_ok-index.reply c.in-Written.written (c.in_ok-index.ensures {u = tt}).decides c.in-Written.is in
    λ T n agrees pairs has. named_files model answers c.store_has_tree_map.ensures T n c.args.editor.now c.deciding_reply.new.editor c.args.edits.items
    c.in-Written.written written agrees pairs has

pub returns-in-Written-clause-continues : goal.returns-in-Written-clause-continues
returns-in-Written-clause-continues g c =
    let model : StoreModel g.row.S.Denot = record { objects = g.S.Store.objects; may_fail = g.S.Store.may_fail } in
    let answers = λ (tree : List EntryView) (answer : Result ObjectId g.row.E.Denot). FnReturnsAt g.F.Fn c.args.out tree answer in
    let written = write_done model answers c.store_has_tree_map.ensures c.args.editor.now c.deciding_reply.new.editor c.args.edits.items c.in_ok-index.index
    c.in_ok-index.reply c.in-Written.written (c.in_ok-index.ensures {u = tt}).decides c.in-Written.is in
    λ T n pairs. files_remaining model answers c.store_has_tree_map.ensures T n c.args.editor.now c.deciding_reply.new.editor c.args.edits.items
    c.in-Written.written written pairs

pub returns-in-Written-clause-has_bases : goal.returns-in-Written-clause-has_bases
returns-in-Written-clause-has_bases g c =
    let model : StoreModel g.row.S.Denot = record { objects = g.S.Store.objects; may_fail = g.S.Store.may_fail } in
    let answers = λ (tree : List EntryView) (answer : Result ObjectId g.row.E.Denot). FnReturnsAt g.F.Fn c.args.out tree answer in
    let written = write_done model answers c.store_has_tree_map.ensures c.args.editor.now c.deciding_reply.new.editor c.args.edits.items c.in_ok-index.index
    c.in_ok-index.reply c.in-Written.written (c.in_ok-index.ensures {u = tt}).decides c.in-Written.is in
    λ T. bases_remaining model answers c.store_has_tree_map.ensures T 0 c.args.editor.now c.deciding_reply.new.editor c.args.edits.items c.in-Written.written
    written

pub returns-in-Written-clause-stored : goal.returns-in-Written-clause-stored
returns-in-Written-clause-stored g c =
    let model : StoreModel g.row.S.Denot = record { objects = g.S.Store.objects; may_fail = g.S.Store.may_fail } in
    let answers = λ (tree : List EntryView) (answer : Result ObjectId g.row.E.Denot). FnReturnsAt g.F.Fn c.args.out tree answer in
    let written = write_done model answers c.store_has_tree_map.ensures c.args.editor.now c.deciding_reply.new.editor c.args.edits.items c.in_ok-index.index
    c.in_ok-index.reply c.in-Written.written (c.in_ok-index.ensures {u = tt}).decides c.in-Written.is in
    all_kept model answers c.store_has_tree_map.ensures c.args.editor.now c.deciding_reply.new.editor c.args.edits.items c.in-Written.written written

pub returns-in-Written-clause-written : goal.returns-in-Written-clause-written
returns-in-Written-clause-written g c =
    let model : StoreModel g.row.S.Denot = record { objects = g.S.Store.objects; may_fail = g.S.Store.may_fail } in
    let answers = λ (tree : List EntryView) (answer : Result ObjectId g.row.E.Denot). FnReturnsAt g.F.Fn c.args.out tree answer in
    decides_of_eq model answers c.store_has_tree_map.ensures c.args.editor.now c.deciding_reply.new.editor c.args.edits.items c.in_ok-index.index
    c.in_ok-index.reply (edit_reply.Written c.in-Written.written) (c.in_ok-index.ensures {u = tt}).decides c.in-Written.is

pub returns-in-Refused-clause-error : goal.returns-in-Refused-clause-error
returns-in-Refused-clause-error g c =
    let model : StoreModel g.row.S.Denot = record { objects = g.S.Store.objects; may_fail = g.S.Store.may_fail } in
    let answers = λ (tree : List EntryView) (answer : Result ObjectId g.row.E.Denot). FnReturnsAt g.F.Fn c.args.out tree answer in
    decides_of_eq model answers c.store_has_tree_map.ensures c.args.editor.now c.deciding_reply.new.editor c.args.edits.items c.in_ok-index.index
    c.in_ok-index.reply (edit_reply.Refused c.in-Refused.error) (c.in_ok-index.ensures {u = tt}).decides c.in-Refused.is

pub returns-in-WriteRefused-clause-error : goal.returns-in-WriteRefused-clause-error
returns-in-WriteRefused-clause-error g c =
    let model : StoreModel g.row.S.Denot = record { objects = g.S.Store.objects; may_fail = g.S.Store.may_fail } in
    let answers = λ (tree : List EntryView) (answer : Result ObjectId g.row.E.Denot). FnReturnsAt g.F.Fn c.args.out tree answer in
    decides_of_eq model answers c.store_has_tree_map.ensures c.args.editor.now c.deciding_reply.new.editor c.args.edits.items c.in_ok-index.index
    c.in_ok-index.reply (edit_reply.WriteRefused c.in-WriteRefused.error) (c.in_ok-index.ensures {u = tt}).decides c.in-WriteRefused.is

pub returns-in-NotKept-clause-error : goal.returns-in-NotKept-clause-error
returns-in-NotKept-clause-error g c =
    let model : StoreModel g.row.S.Denot = record { objects = g.S.Store.objects; may_fail = g.S.Store.may_fail } in
    let answers = λ (tree : List EntryView) (answer : Result ObjectId g.row.E.Denot). FnReturnsAt g.F.Fn c.args.out tree answer in
    decides_of_eq model answers c.store_has_tree_map.ensures c.args.editor.now c.deciding_reply.new.editor c.args.edits.items c.in_ok-index.index
    c.in_ok-index.reply (edit_reply.NotKept c.in-NotKept.written c.in-NotKept.count c.in-NotKept.error) (c.in_ok-index.ensures {u = tt}).decides c.in-NotKept.is

pub returns-in-NotKept-clause-cause : goal.returns-in-NotKept-clause-cause
returns-in-NotKept-clause-cause g c =
    subst (λ (it : EditReply g.row.E.Denot). HasKeepCause g.S.Store.objects g.S.Keep.keep_errors c.args.editor.now.store it) c.in-NotKept.is
    (c.in_ok-index.ensures {u = tt}).cause

use Rattle.std.proofs.Common.{List, Result, ap, refl, ◌∙◌}
use Rattle.std.specs.Fn.{FnReturnsAt}
use Rattle.gixobj_editor_files.specs.Emission.{EmitsSome}
use Rattle.gixobj_editor_files.specs.Opening.{in_path}
use Rattle.gixobj_editor_files.specs.State.{State, open_bases, open_dirs}
use Rattle.gixobj_hash.specs.declared.hash.object_id.ObjectId.{ObjectId}
use Rattle.gixobj_store.specs.Stores.{StoreModel}
use Rattle.gixobj_tree_entries.specs.Entries.{EntryView}
use Rattle.gixobj_editor.specs.Commands.{at_cursor}
use Rattle.gixobj_editor.proofs.Causes.{cause_of_borrowed_trees}
use Rattle.gixobj_editor.proofs.Calling.{callable, stopped, written_below}
use Rattle.gixobj_editor.proofs.Kept.{kept_all, not_kept}
use Rattle.gixobj_editor.proofs.by_cursor.do_write_by.Goals as goal

pub write-requires : goal.write-requires
write-requires g c = callable g.F.Fn _ c.args.out _ c.requires.callable (λ requested tree answer answered it. (it.met.1, it.met.0))

pub returns-in-Err-clause-reply : goal.returns-in-Err-clause-reply
returns-in-Err-clause-reply g c =
    let done = c.in-Err.ensures {u = tt} in
    record {
      cause = stopped g.F.Fn _ c.args.out (EmitsSome (in_path c.args.cursor.now.editor.now.prefix (open_dirs c.args.cursor.now.editor.now))
          (in_path c.args.cursor.now.editor.now.prefix (open_bases c.args.cursor.now.editor.now))) c.in-Err.error done.error
          (λ requested tree answer answered it. (it.met.1, it.met.0));
      unchanged = done.unchanged;
    }

pub returns-in-Ok-keep_all-clause-reply : goal.returns-in-Ok-keep_all-clause-reply
returns-in-Ok-keep_all-clause-reply g c =
    let model : StoreModel g.row.S.Denot = record { objects = g.S.Store.objects; may_fail = g.S.Store.may_fail } in
    let answers = λ (tree : List EntryView) (answer : Result ObjectId g.row.E.Denot). FnReturnsAt g.F.Fn c.args.out.now tree answer in
    let wrote = written_below g.F.Fn _ c.args.out c.args.cursor.now.editor.now c.write.new.self.editor.now c.args.cursor.now.editor.now.prefix c.in-Ok.written
    (c.in-Ok.ensures {u = tt}).written (λ requested tree answer answered it. (it.met.1, it.met.0)) in
    let kept = c.in-Ok-keep_all.ensures {u = tt} in
    kept_all model answers (at_cursor c.args.cursor.now.editor.now.prefix) c.args.cursor.now.editor.now c.write.new.self.editor.now _ c.store_mut.result.now
    c.keep_all.new.store c.in-Ok.written c.deref.result.now wrote (ap (λ (s : State g.row.S.Denot). s.store) wrote.rest) c.store_mut.ensures.value
    c.deref.ensures.value refl c.keep_all.ensures.same_may_fail kept.stored kept.have_encodings

pub returns-in-Err-keep_all-clause-reply : goal.returns-in-Err-keep_all-clause-reply
returns-in-Err-keep_all-clause-reply g c =
    let model : StoreModel g.row.S.Denot = record { objects = g.S.Store.objects; may_fail = g.S.Store.may_fail } in
    let answers = λ (tree : List EntryView) (answer : Result ObjectId g.row.E.Denot). FnReturnsAt g.F.Fn c.args.out.now tree answer in
    let wrote = written_below g.F.Fn _ c.args.out c.args.cursor.now.editor.now c.write.new.self.editor.now c.args.cursor.now.editor.now.prefix c.in-Ok.written
    (c.in-Ok.ensures {u = tt}).written (λ requested tree answer answered it. (it.met.1, it.met.0)) in
    not_kept model answers (at_cursor c.args.cursor.now.editor.now.prefix) c.args.cursor.now.editor.now c.write.new.self.editor.now _ c.store_mut.result.now
    c.keep_all.new.store c.in-Ok.written c.deref.result.now wrote (ap (λ (s : State g.row.S.Denot). s.store) wrote.rest) c.store_mut.ensures.value
    c.deref.ensures.value refl c.keep_all.ensures.same_may_fail c.in-Err-keep_all.count c.in-Err-keep_all.error (c.in-Err-keep_all.ensures {u = tt}).error

pub returns-in-Err-keep_all-clause-cause : goal.returns-in-Err-keep_all-clause-cause
returns-in-Err-keep_all-clause-cause g c =
    let wrote = written_below g.F.Fn _ c.args.out c.args.cursor.now.editor.now c.write.new.self.editor.now c.args.cursor.now.editor.now.prefix c.in-Ok.written
    (c.in-Ok.ensures {u = tt}).written (λ requested tree answer answered it. (it.met.1, it.met.0)) in
    cause_of_borrowed_trees g.S.Store.objects g.S.Keep.keep_errors c.args.cursor.now.editor.now.store c.store_mut.result.now c.in-Ok.written.trees.items
    c.deref.result.now c.in-Err-keep_all.count c.in-Err-keep_all.error c.deref.ensures.value
    (c.store_mut.ensures.value ∙ ap (λ (s : State g.row.S.Denot). s.store) wrote.rest) (c.in-Err-keep_all.ensures {u = tt}).cause

use Rattle.std.proofs.Common.{List, Result, ap, refl, ◌∙◌}
use Rattle.std.specs.Fn.{FnReturnsAt}
use Rattle.gixobj_editor_files.specs.Emission.{EmitsSome}
use Rattle.gixobj_editor_files.specs.State.{State, open_bases, open_dirs}
use Rattle.gixobj_hash.specs.declared.hash.object_id.ObjectId.{ObjectId}
use Rattle.gixobj_store.specs.Stores.{StoreModel}
use Rattle.gixobj_tree_entries.specs.Entries.{EntryView}
use Rattle.gixobj_editor.specs.Commands.{at_root}
use Rattle.gixobj_editor.proofs.Causes.{cause_of_borrowed_trees}
use Rattle.gixobj_editor.proofs.Calling.{callable, stopped, written}
use Rattle.gixobj_editor.proofs.Kept.{kept_all, not_kept}
use Rattle.gixobj_editor.proofs.edits.do_write.Goals as goal

pub write-requires : goal.write-requires
write-requires g c = callable g.F.Fn _ c.args.out _ c.requires.callable (λ requested tree answer answered it. (it.met.1, it.met.0))

pub returns-in-Err : goal.returns-in-Err
returns-in-Err g c =
    let done = c.in-Err.ensures {u = tt} in
    record {
      reply = record {
        cause = stopped g.F.Fn _ c.args.out (EmitsSome (open_dirs c.args.editor.now) (open_bases c.args.editor.now)) c.in-Err.error done.error
            (λ requested tree answer answered it. (it.met.1, it.met.0));
        unchanged = done.unchanged;
      };
      cause = tt;
    }

pub returns-in-Ok-keep_all : goal.returns-in-Ok-keep_all
returns-in-Ok-keep_all g c =
    let model : StoreModel g.row.S.Denot = record { objects = g.S.Store.objects; may_fail = g.S.Store.may_fail } in
    let answers = λ (tree : List EntryView) (answer : Result ObjectId g.row.E.Denot). FnReturnsAt g.F.Fn c.args.out.now tree answer in
    let wrote = written g.F.Fn _ c.args.out c.args.editor.now c.write.new.self c.in-Ok.written (c.in-Ok.ensures {u = tt}).written
    (λ requested tree answer answered it. (it.met.1, it.met.0)) in
    let kept = c.in-Ok-keep_all.ensures {u = tt} in
    record {
      reply = kept_all model answers at_root c.args.editor.now c.write.new.self _ c.store_mut.result.now c.keep_all.new.store c.in-Ok.written
          c.deref.result.now wrote (ap (λ (s : State g.row.S.Denot). s.store) wrote.rest) c.store_mut.ensures.value c.deref.ensures.value refl
          c.keep_all.ensures.same_may_fail kept.stored kept.have_encodings;
      cause = tt;
    }

pub returns-in-Err-keep_all : goal.returns-in-Err-keep_all
returns-in-Err-keep_all g c =
    let model : StoreModel g.row.S.Denot = record { objects = g.S.Store.objects; may_fail = g.S.Store.may_fail } in
    let answers = λ (tree : List EntryView) (answer : Result ObjectId g.row.E.Denot). FnReturnsAt g.F.Fn c.args.out.now tree answer in
    let wrote = written g.F.Fn _ c.args.out c.args.editor.now c.write.new.self c.in-Ok.written (c.in-Ok.ensures {u = tt}).written
    (λ requested tree answer answered it. (it.met.1, it.met.0)) in
    record {
      reply = not_kept model answers at_root c.args.editor.now c.write.new.self _ c.store_mut.result.now c.keep_all.new.store c.in-Ok.written
          c.deref.result.now wrote (ap (λ (s : State g.row.S.Denot). s.store) wrote.rest) c.store_mut.ensures.value c.deref.ensures.value refl
          c.keep_all.ensures.same_may_fail c.in-Err-keep_all.count c.in-Err-keep_all.error (c.in-Err-keep_all.ensures {u = tt}).error;
      cause = cause_of_borrowed_trees g.S.Store.objects g.S.Keep.keep_errors c.args.editor.now.store c.store_mut.result.now c.in-Ok.written.trees.items
          c.deref.result.now c.in-Err-keep_all.count c.in-Err-keep_all.error c.deref.ensures.value
          (c.store_mut.ensures.value ∙ ap (λ (s : State g.row.S.Denot). s.store) wrote.rest) (c.in-Err-keep_all.ensures {u = tt}).cause;
    }

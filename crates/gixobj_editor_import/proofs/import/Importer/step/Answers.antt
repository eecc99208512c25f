-- Each way through `step` meets its contract, from the write of its edits and its commit: for `import_all`, by that
-- contract alone.
use Rattle.std.proofs.Common.{ap, inl, inr, refl, subst, sym, Bool, List, Some, false, true}
use Rattle.std.specs.Prelude.{Contains}
use Rattle.gixobj_editor_commands.specs.declared.command.Edit.{Edit}
use Rattle.gixobj_editor_commands.specs.declared.command.Edit.TheVariants as edit
use Rattle.gixobj_editor.specs.declared.reply.EditReply.TheVariants as reply
use Rattle.gixobj_editor_import.specs.Edited.{IsWriteAfter}
use Rattle.gixobj_editor_import.specs.StepCauses.{HasTreeCauseAfter}
use Rattle.gixobj_editor_import.specs.Steps.{IsImported, IsStepEditsError}
use Rattle.gixobj_editor_import.specs.declared.import.Imported.{Imported}
use Rattle.gixobj_editor_import.specs.declared.import.Importer.{Importer}
use Rattle.gixobj_editor_import.proofs.Adding.{rejected_adds, step_adds}
use Rattle.gixobj_editor_import.proofs.Causes.{encoding_cause_of_step_error}
use Rattle.gixobj_editor_import.proofs.Digests.{adds_by_digest_nil}
use Rattle.gixobj_editor_import.proofs.StepFiles.{step_bases, step_files}
use Rattle.gixobj_editor_import.proofs.StoreFacts.{OfStores}
use Rattle.gixobj_editor_import.proofs.Stepping.{no_write_of_step, contains_write_of_reply, rejects_step}
use Rattle.gixobj_editor_import.proofs.import.Importer.step.Goals as goal
use Rattle.gixobj_store.specs.Stores.{store_model}

pub write_by_digests-requires : goal.write_by_digests-requires
write_by_digests-requires g c = record {
  no_write = λ has.
      no_write_of_step c.args.step.now.edits.items c.deref.result.now c.hold_a_write.result c.deref.ensures.value c.if-hold_a_write.false c.hold_a_write.ensures
      (subst (λ (es : List Edit). Contains es edit.Write) c.deref-2.ensures.value has);
}

pub returns-then-self : goal.returns-then-self
returns-then-self g c =
    let model = store_model g.S.Store.objects g.S.Store.may_fail in
    let objects = model.objects c.args.self.now.editor.store in
    record {
      imported = tt;
      after_error = (c.if-self.true, refl);
      cause = inl tt;
      encoding = tt;
      added = adds_by_digest_nil objects objects refl;
      files = tt;
      bases = tt;
    }

pub returns-then-hold_a_write : goal.returns-then-hold_a_write
returns-then-hold_a_write g c =
    let model = store_model g.S.Store.objects g.S.Store.may_fail in
    let objects = model.objects c.args.self.now.editor.store in
    record {
      imported = tt;
      after_error = (
        c.if-self.false,
        contains_write_of_reply c.args.step.now.edits.items c.deref.result.now c.hold_a_write.result c.deref.ensures.value c.if-hold_a_write.true
            c.hold_a_write.ensures,
        refl,
      );
      cause = inl tt;
      encoding = tt;
      added = adds_by_digest_nil objects objects refl;
      files = tt;
      bases = tt;
    }

pub returns-in-Err : goal.returns-in-Err
returns-in-Err g c =
    let model = store_model g.S.Store.objects g.S.Store.may_fail in
    let laws : OfStores = record {
      trees_of = c.store_has_tree_map.ensures;
      inserted = record {
        there = c.object_map_insert.ensures.inserted;
        elsewhere = c.object_map_insert.ensures.unchanged;
        same_or_not = c.id_equality_is_decidable.ensures;
      };
    } in
    let old = c.args.self.now in
    let new : Importer g.row.S.Denot = record old { editor = c.write_by_digests.new.editor; failed = true } in
    let rejected = rejects_step model old new c.args.step.now c.in-Err.error (record {
      ready = c.if-self.false;
      no_write = no_write_of_step c.args.step.now.edits.items c.deref.result.now c.hold_a_write.result c.deref.ensures.value c.if-hold_a_write.false
          c.hold_a_write.ensures;
      cause = inl (subst (λ (es : List Edit). IsStepEditsError model old.hash es old.editor c.in-Err.error c.write_by_digests.new.editor)
          c.deref-2.ensures.value (c.in-Err.ensures {u = tt}).error);
      rest = refl;
    }) in
    record {
      imported = tt;
      after_error = rejected;
      cause = inl (subst (λ (es : List Edit). HasTreeCauseAfter model g.S.Keep.keep_errors old.hash old.editor es c.in-Err.error
          c.write_by_digests.new.editor) c.deref-2.ensures.value (c.in-Err.ensures {u = tt}).cause);
      encoding = encoding_cause_of_step_error model old c.args.step.now c.in-Err.error new rejected;
      added = rejected_adds model laws old new c.args.step.now c.in-Err.error rejected;
      files = tt;
      bases = tt;
    }

pub returns-in-Err-kept : goal.returns-in-Err-kept
returns-in-Err-kept g c =
    let model = store_model g.S.Store.objects g.S.Store.may_fail in
    let laws : OfStores = record {
      trees_of = c.store_has_tree_map.ensures;
      inserted = record {
        there = c.object_map_insert.ensures.inserted;
        elsewhere = c.object_map_insert.ensures.unchanged;
        same_or_not = c.id_equality_is_decidable.ensures;
      };
    } in
    let old = c.args.self.now in
    let new : Importer g.row.S.Denot = record old { editor = c.keep_commit_of-kept.new.editor; failed = true } in
    let trees = subst (λ (es : List Edit). IsWriteAfter model old.hash old.editor es (reply.Written c.in-Ok.written) c.write_by_digests.new.editor)
    c.deref-2.ensures.value (c.in-Ok.ensures {u = tt}).written in
    let rejected = rejects_step model old new c.args.step.now c.in-Err-kept.error (record {
      ready = c.if-self.false;
      no_write = no_write_of_step c.args.step.now.edits.items c.deref.result.now c.hold_a_write.result c.deref.ensures.value c.if-hold_a_write.false
          c.hold_a_write.ensures;
      cause = inr (record {
        it = c.in-Ok.written;
        between = c.write_by_digests.new.editor;
        trees = trees;
        cause = (c.in-Err-kept.ensures {u = tt}).error;
      });
      rest = refl;
    }) in
    record {
      imported = tt;
      after_error = rejected;
      cause = inr (record { it = c.in-Ok.written; between = c.write_by_digests.new.editor; trees = trees; cause = (c.in-Err-kept.ensures {u = tt}).cause });
      encoding = encoding_cause_of_step_error model old c.args.step.now c.in-Err-kept.error new rejected;
      added = rejected_adds model laws old new c.args.step.now c.in-Err-kept.error rejected;
      files = tt;
      bases = tt;
    }

pub returns : goal.returns
returns g c =
    let model = store_model g.S.Store.objects g.S.Store.may_fail in
    let laws : OfStores = record {
      trees_of = c.store_has_tree_map.ensures;
      inserted = record {
        there = c.object_map_insert.ensures.inserted;
        elsewhere = c.object_map_insert.ensures.unchanged;
        same_or_not = c.id_equality_is_decidable.ensures;
      };
    } in
    let old = c.args.self.now in
    let new : Importer g.row.S.Denot = record old { editor = c.keep_commit_of-kept.new.editor; last = Some c.in-Ok-kept.commit; failed = false } in
    let it : Imported = record { commit = c.in-Ok-kept.commit; written = c.in-Ok.written } in
    let one : IsImported model old c.args.step.now it new = record {
      ready = c.if-self.false;
      no_write = no_write_of_step c.args.step.now.edits.items c.deref.result.now c.hold_a_write.result c.deref.ensures.value c.if-hold_a_write.false
          c.hold_a_write.ensures;
      between = c.write_by_digests.new.editor;
      trees = subst (λ (es : List Edit). IsWriteAfter model old.hash old.editor es (reply.Written c.in-Ok.written) c.write_by_digests.new.editor)
          c.deref-2.ensures.value (c.in-Ok.ensures {u = tt}).written;
      root = (c.in-Ok.ensures {u = tt}).root;
      commit = (c.in-Ok-kept.ensures {u = tt}).stored;
      rest = ap (λ (b : Bool). record old { editor = c.keep_commit_of-kept.new.editor; last = Some c.in-Ok-kept.commit; failed = b }) (sym c.if-self.false);
    } in
    record {
      imported = one;
      after_error = tt;
      cause = tt;
      encoding = tt;
      added = step_adds model laws old c.args.step.now it new one;
      files = λ T n agrees. step_files model laws old c.args.step.now it new one T n agrees;
      bases = step_bases model laws old c.args.step.now it new one;
    }

-- An import meets its contract, after its last step and at the first that fails: for callers, by that contract alone.
use Rattle.std.proofs.Common.{◌+◌, ◌∷◌, ◌∙◌, [], ℕ, arith, ap, inr, length, refl, subst, sym, take, List}
use Rattle.std.proofs.lemmas.List.{length-append}
use Rattle.gixobj_editor_import.specs.Steps.{AreImported, Stops}
use Rattle.gixobj_editor_import.specs.declared.import.Imported.{Imported}
use Rattle.gixobj_editor_import.proofs.Causes.{encoding_cause_of_stopped, import_cause_of_step, import_cause_out_of_memory}
use Rattle.gixobj_editor_import.proofs.Committing.{commits_of_new}
use Rattle.gixobj_editor_import.proofs.Digests.{adds_by_digest_nil}
use Rattle.gixobj_editor_import.proofs.StepFiles.{files_of_new}
use Rattle.gixobj_editor_import.proofs.Adding.{steps_add}
use Rattle.gixobj_editor_import.proofs.StoreFacts.{OfStores}
use Rattle.gixobj_editor_import.proofs.Stepping.{all_imported, slice_get_length_of_get_or, one_more_imported, stopped_at}
use Rattle.gixobj_editor_import.proofs.Stopping.{commits_of_stopped, files_of_stopped, stopped_adds}
use Rattle.gixobj_editor_import.proofs.Storing.{steps_stored, stopped_stores}
use Rattle.gixobj_editor_import.proofs.import.import_all.Goals as goal
use Rattle.gixobj_store.specs.Stores.{store_model}

pub loop-step-preserved : goal.loop-step-preserved
loop-step-preserved g c =
    let model = store_model g.S.Store.objects g.S.Store.may_fail in
    let inv = c.loop-step.invariant in
    record {
      imported = subst (λ (is : List Imported). AreImported model c.args.importer.now (take (c.loop-step.step-index + 1) c.args.steps.now) is c.step.new.self)
          (sym c.push_reserved.ensures.items)
          (one_more_imported model c.args.importer.now c.loop-step.importer c.step.new.self c.args.steps.now c.loop-step.imported.items c.loop-step.step-index
          c.step-item.result c.in-Ok-step.it
          c.loop-step-test.true c.step-item.is inv.imported (c.in-Ok-step.ensures {u = tt}).imported);
      count = ap length c.push_reserved.ensures.items ∙ length-append c.loop-step.imported.items (c.in-Ok-step.it ∷ []) ∙ ap (λ n. n + 1) inv.count;
      same_count = c.push_reserved.ensures.len ∙ ap (λ n. n + 1) inv.same_count;
      room = omega (arith, inv.room, c.push_reserved.ensures.capacity);
    }

pub returns-in-Err : goal.returns-in-Err
returns-in-Err g c =
    let model = store_model g.S.Store.objects g.S.Store.may_fail in
    let laws : OfStores = record {
      trees_of = c.store_has_tree_map.ensures;
      inserted = record {
        there = c.object_map_insert.ensures.inserted;
        elsewhere = c.object_map_insert.ensures.unchanged;
        same_or_not = c.id_equality_is_decidable.ensures;
      };
    } in
    let old = c.args.importer.now in
    let done = c.no_list.result.done.items in
    let error = c.no_list.result.error in
    let stops : Stops model old c.args.steps.now done error old =
    inr (record { nothing = c.no_list.ensures.done; memory = c.no_list.ensures.error; unchanged = refl }) in
    record {
      imported = tt;
      error = stops;
      cause = import_cause_out_of_memory model g.S.Keep.keep_errors g.S.KeepCommit.keep_commit_errors old old c.args.steps.now done error
          c.no_list.ensures.error;
      encoding = encoding_cause_of_stopped model old c.args.steps.now done error old stops;
      added = stopped_adds model laws old old c.args.steps.now done error stops;
      stored = tt;
      stored_done = stopped_stores model laws old old c.args.steps.now done error stops;
      commits = tt;
      files = tt;
      commits_done = commits_of_stopped model laws old old c.args.steps.now done error stops;
      files_done = files_of_stopped model laws old old c.args.steps.now done error stops;
    }

pub returns-in-Err-step : goal.returns-in-Err-step
returns-in-Err-step g c =
    let model = store_model g.S.Store.objects g.S.Store.may_fail in
    let laws : OfStores = record {
      trees_of = c.store_has_tree_map.ensures;
      inserted = record {
        there = c.object_map_insert.ensures.inserted;
        elsewhere = c.object_map_insert.ensures.unchanged;
        same_or_not = c.id_equality_is_decidable.ensures;
      };
    } in
    let inv = c.loop-step.invariant in
    let done = c.loop-step.imported.items in
    let stops = stopped_at model c.args.importer.now c.loop-step.importer c.step.new.self c.args.steps.now done c.loop-step.step-index c.step-item.result
    c.in-Err-step.error
    c.loop-step-test.true c.step-item.is inv.imported inv.count (c.in-Err-step.ensures {u = tt}).after_error in
    record {
      imported = tt;
      error = stops;
      cause = import_cause_of_step model g.S.Keep.keep_errors g.S.KeepCommit.keep_commit_errors c.args.importer.now c.loop-step.importer
          c.step.new.self c.args.steps.now done c.step-item.result c.in-Err-step.error
          (slice_get_length_of_get_or c.args.steps.now done c.loop-step.step-index c.step-item.result c.loop-step-test.true c.step-item.is inv.count)
          (subst (λ (n : ℕ). AreImported model c.args.importer.now (take n c.args.steps.now) done c.loop-step.importer) (sym inv.count) inv.imported)
          (c.in-Err-step.ensures {u = tt}).cause;
      encoding = encoding_cause_of_stopped model c.args.importer.now c.args.steps.now done c.in-Err-step.error c.step.new.self stops;
      added = stopped_adds model laws c.args.importer.now c.step.new.self c.args.steps.now done c.in-Err-step.error stops;
      stored = tt;
      stored_done = stopped_stores model laws c.args.importer.now c.step.new.self c.args.steps.now done c.in-Err-step.error stops;
      commits = tt;
      files = tt;
      commits_done = commits_of_stopped model laws c.args.importer.now c.step.new.self c.args.steps.now done c.in-Err-step.error stops;
      files_done = files_of_stopped model laws c.args.importer.now c.step.new.self c.args.steps.now done c.in-Err-step.error stops;
    }

pub returns : goal.returns
returns g c =
    let model = store_model g.S.Store.objects g.S.Store.may_fail in
    let laws : OfStores = record {
      trees_of = c.store_has_tree_map.ensures;
      inserted = record {
        there = c.object_map_insert.ensures.inserted;
        elsewhere = c.object_map_insert.ensures.unchanged;
        same_or_not = c.id_equality_is_decidable.ensures;
      };
    } in
    let old = c.args.importer.now in
    let new = c.loop-step.importer in
    let imported = c.loop-step.imported.items in
    let all = all_imported model old new c.args.steps.now imported c.loop-step.step-index c.loop-step-test.false c.loop-step.invariant.imported in
    let final = model.objects new.editor.store in
    record {
      imported = all;
      error = tt;
      cause = tt;
      encoding = tt;
      added = steps_add model laws old new c.args.steps.now imported all;
      stored = steps_stored model laws old new c.args.steps.now imported all;
      stored_done = tt;
      commits = λ is. commits_of_new model laws old new c.args.steps.now imported all is final (adds_by_digest_nil final final refl);
      files = files_of_new model laws old new c.args.steps.now imported all;
      commits_done = tt;
      files_done = tt;
    }

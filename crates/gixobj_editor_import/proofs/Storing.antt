-- The objects of a store after steps are imported, and after a step fails: for the contract of `import_all`.
use Rattle.std.proofs.Common.{◌≡◌, ◌∙◌, ⊎_elim, inl, inr, List, [], ◌∷◌, Option, Some, ap, length, take}
use Rattle.gixobj_editor_commands.specs.declared.command.Edit.{Edit}
use Rattle.gixobj_store.specs.Stores.{StoreModel, Objects}
use Rattle.gixobj_editor_files.specs.State.{State}
use Rattle.gixobj_hash.specs.declared.hash.kind.Kind as hash
use Rattle.gixobj_hash.specs.declared.hash.object_id.ObjectId.{ObjectId}
use Rattle.gixobj_store_keep.specs.Keeping.{with_trees}
use Rattle.gixobj_tree_entries.specs.Entries.{Pair}
use Rattle.gixobj_editor_import.specs.Edited.{AreDone}
use Rattle.gixobj_editor_import.specs.Imports.{before, with_imports}
use Rattle.gixobj_editor_import.specs.Steps.{AreImported, IsStepFailed, IsStepEditsError, IsStepError, IsStepCommitError, IsStepWriteError, Stops}
use Rattle.gixobj_editor_import.specs.declared.import.ImportError.{ImportError}
use Rattle.gixobj_editor_import.specs.declared.import.ImportError.TheVariants as import
use Rattle.gixobj_editor_import.specs.declared.import.Imported.{Imported}
use Rattle.gixobj_editor_import.specs.declared.import.Importer.{Importer}
use Rattle.gixobj_editor_import.specs.declared.import.Step.{Step}
use Rattle.gixobj_editor_import.proofs.Adding.{kept_so, objects_of}
use Rattle.gixobj_editor_import.proofs.EditsDone.{all_kept, edits_stay, failed_stays}
use Rattle.gixobj_editor_import.proofs.StoreFacts.{OfStores}

-- trees are inserted, and nothing else changes
abbrev pub InsertsTrees : Objects → Objects → Type 0
InsertsTrees old new = (kept : List Pair) × (new ≡ with_trees kept old)

inserts_trees_of_same_objects : (old between new : Objects) → between ≡ old → InsertsTrees between new → InsertsTrees old new
inserts_trees_of_same_objects old between new same is = (is.0, is.1 ∙ ap (with_trees is.0) same)

module _ {S : Type 0} (model : StoreModel S) (laws : OfStores) where
  pub steps_stored : (old new : Importer S) (steps : List Step) (imported : List Imported) → AreImported model old steps imported new
      → objects_of model laws new ≡ with_imports old.last steps imported (objects_of model laws old)
  steps_stored old new [] [] done = ap (objects_of model laws) done
  steps_stored old new (step ∷ steps) (it ∷ imported) (between, one, done) =
      steps_stored between new steps imported done
      ∙ ap (λ (parent : Option ObjectId). with_imports parent steps imported (objects_of model laws between)) (ap (λ (i : Importer S). i.last) one.rest)
      ∙ ap (with_imports (Some it.commit) steps imported) (kept_so model laws old step it between one)
  steps_stored old new [] (it ∷ imported) done = absurd done
  steps_stored old new (step ∷ steps) [] done = absurd done

  write_stores : (hash : hash.Kind) (old new : State S) (error : ImportError) → IsStepWriteError model hash old error new
      → InsertsTrees (model.objects old.store) (model.objects new.store)
  write_stores hash old new (import.Write error) is = ([], ap (λ (s : State S). model.objects s.store) is.unchanged)
  write_stores hash old new (import.NotKept error) (it, count, is) = (take count it.trees.items, is.stored.stored)
  write_stores hash old new import.WriteInStep is = absurd is
  write_stores hash old new (import.Edit index error) is = absurd is
  write_stores hash old new (import.Commit error) is = absurd is
  write_stores hash old new import.OutOfMemory is = absurd is
  write_stores hash old new import.Failed is = absurd is

  after_stores : (hash : hash.Kind) (edits : List Edit) (old new : State S) (error : ImportError) → (edited : State S) × AreDone model old edits edited
      × IsStepWriteError model hash edited error new
      → InsertsTrees (model.objects old.store) (model.objects new.store)
  after_stores hash edits old new error (edited, done, rejected) =
      inserts_trees_of_same_objects (model.objects old.store) (model.objects edited.store) (model.objects new.store)
      (ap model.objects (edits_stay model laws.trees_of old edited edits done)) (write_stores hash edited new error rejected)

  edits_store : (hash : hash.Kind) (edits : List Edit) (old new : State S) (error : ImportError) → IsStepEditsError model hash edits old error new
      → InsertsTrees (model.objects old.store) (model.objects new.store)
  edits_store hash edits old new (import.Edit index error) is = (
    [],
    ap model.objects (failed_stays model laws.trees_of is.reached new is.failed_edit error is.cause
        ∙ edits_stay model laws.trees_of old is.reached (take index edits) is.done),
  )
  edits_store hash edits old new (import.Write error) is = after_stores hash edits old new (import.Write error) is
  edits_store hash edits old new (import.NotKept error) is = after_stores hash edits old new (import.NotKept error) is
  edits_store hash edits old new import.WriteInStep is = absurd is.2
  edits_store hash edits old new (import.Commit error) is = absurd is.2
  edits_store hash edits old new import.OutOfMemory is = absurd is.2
  edits_store hash edits old new import.Failed is = absurd is.2

  commit_unstored : (hash : hash.Kind) (step : Step) (tree : ObjectId) (parent : Option ObjectId) (old new : State S) (error : ImportError)
      → IsStepCommitError model hash step tree parent old error new → model.objects new.store ≡ model.objects old.store
  commit_unstored hash step tree parent old new (import.NotKept error) is = is.unchanged
  commit_unstored hash step tree parent old new (import.Commit error) is = ap (λ (s : State S). model.objects s.store) is.1
  commit_unstored hash step tree parent old new import.OutOfMemory is = ap (λ (s : State S). model.objects s.store) is.1
  commit_unstored hash step tree parent old new import.WriteInStep is = absurd is.0
  commit_unstored hash step tree parent old new (import.Edit index error) is = absurd is.0
  commit_unstored hash step tree parent old new (import.Write error) is = absurd is.0
  commit_unstored hash step tree parent old new import.Failed is = absurd is.0

  failed_stores : (old new : Importer S) (step : Step) (error : ImportError) → IsStepFailed model old step error new
      → InsertsTrees (objects_of model laws old) (objects_of model laws new)
  failed_stores old new step error is =
      ⊎_elim (λ rejected. edits_store old.hash step.edits.items old.editor new.editor error rejected)
      (λ uncommitted. (
        uncommitted.it.trees.items,
        commit_unstored old.hash step uncommitted.it.id old.last uncommitted.between new.editor error uncommitted.cause
            ∙ all_kept model laws.trees_of old.hash old.editor uncommitted.between step.edits.items uncommitted.it uncommitted.trees,
      ))
      is.cause

  rejected_stores : (old new : Importer S) (step : Step) (error : ImportError) → IsStepError model old step error new
      → InsertsTrees (objects_of model laws old) (objects_of model laws new)
  rejected_stores old new step import.Failed is = ([], ap (objects_of model laws) is.1)
  rejected_stores old new step import.WriteInStep is = ([], ap (objects_of model laws) is.2)
  rejected_stores old new step (import.Edit index error) is = failed_stores old new step (import.Edit index error) is
  rejected_stores old new step (import.Write error) is = failed_stores old new step (import.Write error) is
  rejected_stores old new step (import.NotKept error) is = failed_stores old new step (import.NotKept error) is
  rejected_stores old new step (import.Commit error) is = failed_stores old new step (import.Commit error) is
  rejected_stores old new step import.OutOfMemory is = failed_stores old new step import.OutOfMemory is

  pub stopped_stores : (old new : Importer S) (steps : List Step) (imported : List Imported) (error : ImportError) → Stops model old steps imported error new
      → InsertsTrees (with_imports old.last (before imported steps) imported (objects_of model laws old)) (objects_of model laws new)
  stopped_stores old new steps imported error (inl at) =
      let done = steps_stored old at.reached (take (length imported) steps) imported at.imported in
      inserts_trees_of_same_objects (with_imports old.last (before imported steps) imported (objects_of model laws old)) (objects_of model laws at.reached)
      (objects_of model laws new) done (rejected_stores at.reached new at.failed_step error at.cause)
  stopped_stores old new steps [] error (inr nothing) = ([], ap (objects_of model laws) nothing.unchanged)
  stopped_stores old new steps (it ∷ imported) error (inr nothing) = cc nothing.nothing

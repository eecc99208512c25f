-- The cause in an error of a step or of an import is that of the call that failed; the proofs of `step`, `import_all`,
-- `write_edits` and `keep_commit_of` use it.
use Rattle.std.proofs.Common.{◌≡◌, ◌∙◌, ⊎_elim, List, [], ◌∷◌, Err, Ok, Option, Result, Some, ap, length, subst, sym, take}
use Rattle.std.specs.Prelude.{IfErr, slice_get}
use Rattle.gixobj_editor_write.specs.declared.write.WriteError.TheVariants as write
use Rattle.gixobj_editor_write.specs.declared.write.Written.{Written}
use Rattle.gixobj_editor_commands.specs.declared.command.Edit.{Edit}
use Rattle.gixobj_streams.specs.declared.encode.Error as encode
use Rattle.gixobj_editor_files.specs.State.{State}
use Rattle.gixobj_hash.specs.declared.hash.kind.Kind as hash
use Rattle.gixobj_hash.specs.declared.hash.object_id.ObjectId.{ObjectId}
use Rattle.gixobj_editor_import.specs.Edited.{AreDone}
use Rattle.gixobj_editor_import.specs.OutCauses.{HasOutCause, HasOutCauseAfter}
use Rattle.gixobj_editor_import.specs.StepCauses.{HasCommitCause, HasEncodingCause, HasImportCause, HasStepCause, HasTreeCause, HasTreeCauseAfter}
use Rattle.gixobj_editor_import.specs.Steps.{AreImported, IsStepEncodeError, IsStepError, Stops}
use Rattle.gixobj_editor_import.specs.declared.import.ImportError.{ImportError}
use Rattle.gixobj_editor_import.specs.declared.import.ImportError.TheVariants as import
use Rattle.gixobj_editor_import.specs.declared.import.Imported.{Imported}
use Rattle.gixobj_editor_import.specs.declared.import.Importer.{Importer}
use Rattle.gixobj_editor_import.specs.declared.import.Step.{Step}
use Rattle.gixobj_store_keep.specs.Keeping.{KeepCommitErrors, KeepErrors}
use Rattle.gixobj_store.specs.Stores.{StoreModel}
use Rattle.gixobj_tree_entries.specs.Entries.{EntryView, Pair}

-- an importer keeps its hash kind
pub imported_same_hash : {S : Type 0} (model : StoreModel S) (old new : Importer S) (steps : List Step) (imported : List Imported)
    → AreImported model old steps imported new → new.hash ≡ old.hash
imported_same_hash {S} model old new [] [] done = ap (λ (i : Importer S). i.hash) done
imported_same_hash {S} model old new (step ∷ steps) (it ∷ imported) (between, one, done) =
    imported_same_hash model between new steps imported done ∙ ap (λ (i : Importer S). i.hash) one.rest
imported_same_hash {S} model old new [] (it ∷ imported) done = absurd done
imported_same_hash {S} model old new (step ∷ steps) [] done = absurd done

-- a commit that isn't encoded has no cause of a store
pub commit_cause_of_encode_error : {S : Type 0} (errors : KeepCommitErrors S) (store : S) (hash : hash.Kind) (step : Step) (tree : ObjectId)
    (parent : Option ObjectId) (error : ImportError) → IsStepEncodeError step error → HasCommitCause errors store hash step tree parent error
commit_cause_of_encode_error errors store hash step tree parent (import.NotKept error) is = absurd is
commit_cause_of_encode_error errors store hash step tree parent import.WriteInStep is = tt
commit_cause_of_encode_error errors store hash step tree parent (import.Edit index error) is = tt
commit_cause_of_encode_error errors store hash step tree parent (import.Write error) is = tt
commit_cause_of_encode_error errors store hash step tree parent (import.Commit error) is = tt
commit_cause_of_encode_error errors store hash step tree parent import.OutOfMemory is = tt
commit_cause_of_encode_error errors store hash step tree parent import.Failed is = tt

module _ {S : Type 0} (model : StoreModel S) (tree_errors : KeepErrors S) where
  -- the cause of a tree that isn't kept is one of the write after its edits
  pub tree_cause_after : (hash : hash.Kind) (edits : List Edit) (old edited new : State S) (done : Result Written ImportError)
      → AreDone model old edits edited → IfErr done (λ error. HasTreeCause model tree_errors hash edited error new)
      → IfErr done (λ error. HasTreeCauseAfter model tree_errors hash old edits error new)
  tree_cause_after hash edits old edited new (Ok it) all cause = tt
  tree_cause_after hash edits old edited new (Err (import.NotKept error)) all cause = (edited, all, cause)
  tree_cause_after hash edits old edited new (Err (import.Write error)) all cause = tt
  tree_cause_after hash edits old edited new (Err import.WriteInStep) all cause = tt
  tree_cause_after hash edits old edited new (Err (import.Edit index error)) all cause = tt
  tree_cause_after hash edits old edited new (Err (import.Commit error)) all cause = tt
  tree_cause_after hash edits old edited new (Err import.OutOfMemory) all cause = tt
  tree_cause_after hash edits old edited new (Err import.Failed) all cause = tt

  module _ (commit_errors : KeepCommitErrors S) where
    -- the cause of the step that fails is that of the import
    pub import_cause_of_step : (old reached new : Importer S) (steps : List Step) (done : List Imported) (step : Step) (error : ImportError)
        → slice_get steps (length done) ≡ Some step → AreImported model old (take (length done) steps) done reached
        → HasStepCause model tree_errors commit_errors reached step error new
        → HasImportCause model tree_errors commit_errors old steps done error new
    import_cause_of_step old reached new steps done step (import.NotKept error) at imported cause = (step, at, reached, imported, cause)
    import_cause_of_step old reached new steps done step import.WriteInStep at imported cause = tt
    import_cause_of_step old reached new steps done step (import.Edit index error) at imported cause = tt
    import_cause_of_step old reached new steps done step (import.Write error) at imported cause = tt
    import_cause_of_step old reached new steps done step (import.Commit error) at imported cause = tt
    import_cause_of_step old reached new steps done step import.OutOfMemory at imported cause = tt
    import_cause_of_step old reached new steps done step import.Failed at imported cause = tt

    pub import_cause_out_of_memory : (old new : Importer S) (steps : List Step) (done : List Imported) (error : ImportError)
        → error ≡ import.OutOfMemory → HasImportCause model tree_errors commit_errors old steps done error new
    import_cause_out_of_memory old new steps done error is = rw is tt

-- the cause of a failed write is one of the write after its edits
pub out_cause_after : {F : Type 0} (gave : F → Pair → F → Type 0) (denies : F → List EntryView → encode.Error → F → Type 0) {S : Type 0}
    (model : StoreModel S) (old edited : State S) (edits : List Edit) (before after : F) (done : Result Written ImportError)
    → AreDone model old edits edited → IfErr done (HasOutCause gave denies edited before after)
    → IfErr done (HasOutCauseAfter gave denies model old edits before after)
out_cause_after gave denies model old edited edits before after (Ok it) done cause = tt
out_cause_after gave denies model old edited edits before after (Err (import.Write error)) done cause = (edited, done, cause)
out_cause_after gave denies model old edited edits before after (Err (import.NotKept error)) done cause = tt
out_cause_after gave denies model old edited edits before after (Err import.WriteInStep) done cause = tt
out_cause_after gave denies model old edited edits before after (Err (import.Edit index error)) done cause = tt
out_cause_after gave denies model old edited edits before after (Err (import.Commit error)) done cause = tt
out_cause_after gave denies model old edited edits before after (Err import.OutOfMemory) done cause = tt
out_cause_after gave denies model old edited edits before after (Err import.Failed) done cause = tt

module _ {S : Type 0} (model : StoreModel S) where
  pub encoding_cause_of_step_error : (old : Importer S) (step : Step) (error : ImportError) (new : Importer S) → IsStepError model old step error new
      → HasEncodingCause old.hash error
  encoding_cause_of_step_error old step (import.Write (write.Out error)) new is =
      ⊎_elim (λ failed. let out = failed.2.cause in (out.tree, out.failed)) (λ uncommitted. absurd uncommitted.cause.0) is.cause
  encoding_cause_of_step_error old step (import.Write write.OutOfMemory) new is = tt
  encoding_cause_of_step_error old step (import.NotKept error) new is = tt
  encoding_cause_of_step_error old step import.WriteInStep new is = tt
  encoding_cause_of_step_error old step (import.Edit index error) new is = tt
  encoding_cause_of_step_error old step (import.Commit error) new is = tt
  encoding_cause_of_step_error old step import.OutOfMemory new is = tt
  encoding_cause_of_step_error old step import.Failed new is = tt

  pub encoding_cause_of_stopped : (old : Importer S) (steps : List Step) (done : List Imported) (error : ImportError) (new : Importer S)
      → Stops model old steps done error new → HasEncodingCause old.hash error
  encoding_cause_of_stopped old steps done error new is = ⊎_elim
      (λ at. subst (λ (h : hash.Kind). HasEncodingCause h error) (imported_same_hash model old at.reached (take (length done) steps) done at.imported)
      (encoding_cause_of_step_error at.reached at.failed_step error new at.cause))
      (λ none. subst (HasEncodingCause old.hash) (sym none.memory) tt)
      is

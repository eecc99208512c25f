-- Steps that are imported one after the other, and their results: for the functions of `import`, `commits` and
-- `written`.
use Rattle.std.proofs.Common.{◌≡◌, ◌∙◌, ◌<◌, ◌≤◌, ◌+◌, ⊎_elim, ℕ, zero, suc, List, [], ◌∷◌, ◌++◌, Option, Some, ap, arith, get_or, inl, length, refl, subst}
use Rattle.std.proofs.Common.{sym, take, Err, Ok, Result}
use Rattle.std.proofs.lemmas.Bool.{true≢false}
use Rattle.std.proofs.lemmas.List.{take_all, take_more}
use Rattle.std.specs.Prelude.{◌↔◌, Bool, true, false, Contains, IfErr, IfOk, IsTrue, slice_get}
use Rattle.gixobj_editor_commands.specs.declared.command.Edit.{Edit}
use Rattle.gixobj_editor_commands.specs.declared.command.Edit.TheVariants as edit
use Rattle.gixobj_editor_write.specs.declared.write.Written.{Written}
use Rattle.gixobj_editor_files.specs.State.{State}
use Rattle.gixobj_hash.specs.declared.hash.kind.Kind as hash
use Rattle.gixobj_hash.specs.declared.hash.object_id.ObjectId.{ObjectId}
use Rattle.gixobj_editor.specs.declared.reply.EditReply.TheVariants as reply
use Rattle.gixobj_editor_import.specs.Edited.{AreDone, IsWriteAfter, IsWriteReplied}
use Rattle.gixobj_editor_import.specs.Steps.{AreImported, IsImported, IsStepFailed, IsStepEditsError, IsStepError, IsStepCommitError, IsStepEncodeError}
use Rattle.gixobj_editor_import.specs.Steps.{IsStepWriteError, Stops}
use Rattle.gixobj_editor_import.specs.declared.import.ImportError.{ImportError}
use Rattle.gixobj_editor_import.specs.declared.import.ImportError.TheVariants as import
use Rattle.gixobj_editor_import.specs.declared.import.Imported.{Imported}
use Rattle.gixobj_editor_import.specs.declared.import.Importer.{Importer}
use Rattle.gixobj_editor_import.specs.declared.import.Step.{Step}
use Rattle.gixobj_store.specs.Stores.{StoreModel}

slice_get_of_get_or : (steps : List Step) (index : ℕ) (it : Step) → index < length steps → it ≡ get_or steps index it → slice_get steps index ≡ Some it
slice_get_of_get_or [] zero it within is = absurd (omega arith)
slice_get_of_get_or [] (suc index) it within is = absurd (omega arith)
slice_get_of_get_or (step ∷ steps) zero it within is = ap Some (sym is)
slice_get_of_get_or (step ∷ steps) (suc index) it within is = slice_get_of_get_or steps index it (omega arith) is

-- the step after those that were imported
pub slice_get_length_of_get_or : (steps : List Step) (imported : List Imported) (index : ℕ) (step : Step) → index < length steps
    → step ≡ get_or steps index step
    → length imported ≡ index → slice_get steps (length imported) ≡ Some step
slice_get_length_of_get_or steps imported index step within is same_count = ap (slice_get steps) same_count ∙ slice_get_of_get_or steps index step within is

-- one of the edits is a write, by the test of the borrowed list
pub contains_write_of_reply : (items lent : List Edit) (b : Bool) → lent ≡ items → b ≡ true → IsTrue b ↔ Contains lent edit.Write → Contains items edit.Write
contains_write_of_reply items lent b same is iff = subst (λ (es : List Edit). Contains es edit.Write) same (iff.0 is)

-- none of the edits is a write, by the test of the borrowed list
pub no_write_of_step : (items lent : List Edit) (b : Bool) → lent ≡ items → b ≡ false → IsTrue b ↔ Contains lent edit.Write → ¬ Contains items edit.Write
no_write_of_step items lent b same is iff has =
    let holds : b ≡ true = iff.1 (subst (λ (es : List Edit). Contains es edit.Write) (sym same) has) in
    true≢false (sym holds ∙ is)

module _ {S : Type 0} (model : StoreModel S) where
  imported_then : (old between new : Importer S) (steps : List Step) (imported : List Imported) (step : Step) (it : Imported)
      → AreImported model old steps imported between → IsImported model between step it new
      → AreImported model old (steps ++ step ∷ []) (imported ++ it ∷ []) new
  imported_then old between new [] [] step it done last = (new, subst (λ (i : Importer S). IsImported model i step it new) done last, refl)
  imported_then old between new (first ∷ steps) (one ∷ imported) step it (next, is, done) last =
      (next, is, imported_then next between new steps imported step it done last)
  imported_then old between new [] (one ∷ imported) step it done last = absurd done
  imported_then old between new (first ∷ steps) [] step it done last = absurd done

  -- one more step is imported
  pub one_more_imported : (old between new : Importer S) (steps : List Step) (imported : List Imported) (index : ℕ) (step : Step) (it : Imported)
      → index < length steps → step ≡ get_or steps index step
      → AreImported model old (take index steps) imported between → IsImported model between step it new
      → AreImported model old (take (index + 1) steps)
      (imported ++ it ∷ []) new
  one_more_imported old between new steps imported index step it within is done last =
      let more : take (index + 1) steps ≡ take index steps ++ step ∷ [] = take_more steps index step within
      ∙ ap (λ (x : Step). take index steps ++ x ∷ [])
      (sym is) in
      subst (λ (ss : List Step). AreImported model old ss (imported ++ it ∷ []) new) (sym more)
      (imported_then old between new (take index steps) imported step it done last)

  -- after the last step all are imported
  pub all_imported : (old new : Importer S) (steps : List Step) (imported : List Imported) (index : ℕ) → length steps ≤ index
      → AreImported model old (take index steps) imported new → AreImported model old steps imported new
  all_imported old new steps imported index over done = subst (λ (ss : List Step). AreImported model old ss imported new)
      (take_all index steps over) done

  -- the next step fails, and the import stops
  pub stopped_at : (old between new : Importer S) (steps : List Step) (imported : List Imported) (index : ℕ) (step : Step) (error : ImportError)
      → index < length steps → step ≡ get_or steps index step
      → AreImported model old (take index steps) imported between → length imported ≡ index → IsStepError model between step error new
      → Stops model old steps imported error new
  stopped_at old between new steps imported index step error within is done same_count failure = inl (record {
    failed_step = step;
    at = slice_get_length_of_get_or steps imported index step within is same_count;
    reached = between;
    imported = subst (λ (k : ℕ). AreImported model old (take k steps) imported between) (sym same_count) done;
    cause = failure;
  })

  -- the error of a failed step is an error of the step
  pub rejects_step : (old new : Importer S) (step : Step) (error : ImportError) → IsStepFailed model old step error new
      → IsStepError model old step error new
  rejects_step old new step import.Failed is = ⊎_elim (λ rejected. absurd rejected.2) (λ uncommitted. absurd uncommitted.cause.0) is.cause
  rejects_step old new step import.WriteInStep is = ⊎_elim (λ rejected. absurd rejected.2) (λ uncommitted. absurd uncommitted.cause.0) is.cause
  rejects_step old new step (import.Edit index error) is = is
  rejects_step old new step (import.Write error) is = is
  rejects_step old new step (import.NotKept error) is = is
  rejects_step old new step (import.Commit error) is = is
  rejects_step old new step import.OutOfMemory is = is

  -- a write fails after edits that were done
  pub edits_failed : (hash : hash.Kind) (edits : List Edit) (old edited new : State S) (error : ImportError) → AreDone model old edits edited
      → IsStepWriteError model hash edited error new → IsStepEditsError model hash edits old error new
  edits_failed hash edits old edited new (import.Edit index error) done rejected = absurd rejected
  edits_failed hash edits old edited new (import.Write error) done rejected = (edited, done, rejected)
  edits_failed hash edits old edited new (import.NotKept error) done rejected = (edited, done, rejected)
  edits_failed hash edits old edited new import.WriteInStep done rejected = absurd rejected
  edits_failed hash edits old edited new (import.Commit error) done rejected = absurd rejected
  edits_failed hash edits old edited new import.OutOfMemory done rejected = absurd rejected
  edits_failed hash edits old edited new import.Failed done rejected = absurd rejected

  -- a write after edits that were done, by what the call returned
  pub write_after : (hash : hash.Kind) (edits : List Edit) (old edited new : State S) (done : Result Written ImportError)
      → AreDone model old edits edited
      → IfOk done (λ it. IsWriteReplied model hash edited (reply.Written it) new)
      → IfOk done (λ it. IsWriteAfter model hash old edits (reply.Written it) new)
  write_after hash edits old edited new (Ok it) done write = record { edited = edited; done = done; write = write }
  write_after hash edits old edited new (Err error) done write = tt

  pub write_failed_after : (hash : hash.Kind) (edits : List Edit) (old edited new : State S) (done : Result Written ImportError)
      → AreDone model old edits edited
      → IfErr done (λ error. IsStepWriteError model hash edited error new) → IfErr done (λ error. IsStepEditsError model hash edits old error new)
  write_failed_after hash edits old edited new (Ok it) done failure = tt
  write_failed_after hash edits old edited new (Err error) done failure = edits_failed hash edits old edited new error done failure

  -- a commit that isn't encoded
  pub encoding_failed : (hash : hash.Kind) (step : Step) (tree : ObjectId) (parent : Option ObjectId) (old new : State S) (error : ImportError)
      → IsStepEncodeError step error → new ≡ old → IsStepCommitError model hash step tree parent old error new
  encoding_failed hash step tree parent old new (import.Edit index error) rejected same = absurd rejected
  encoding_failed hash step tree parent old new (import.Write error) rejected same = absurd rejected
  encoding_failed hash step tree parent old new (import.NotKept error) rejected same = absurd rejected
  encoding_failed hash step tree parent old new import.WriteInStep rejected same = absurd rejected
  encoding_failed hash step tree parent old new (import.Commit error) rejected same = (rejected, same)
  encoding_failed hash step tree parent old new import.OutOfMemory rejected same = (rejected, same)
  encoding_failed hash step tree parent old new import.Failed rejected same = absurd rejected

-- The results of a step of an importer, and of a list of steps.
use Rattle.std.specs.Prelude.{◌≡◌, ◌⊎◌, ℕ, true, false, All, Contains, List, [], ◌∷◌, Option, Some, length, slice_get}
use Rattle.std.specs.Prelude.{take, ⊤}
use Rattle.gixobj_actor.specs.ActorWriting.{IsLegal, encode_owned_actor}
use Rattle.gixobj_editor_commands.specs.declared.command.Edit.{Edit}
use Rattle.gixobj_editor_commands.specs.declared.command.Edit.TheVariants as edit
use Rattle.gixobj_editor_write.specs.declared.write.Written.{Written}
use Rattle.gixobj_streams.specs.declared.encode.Error.TheVariants.{IllegalActor}
use Rattle.gixobj_editor_files.specs.State.{State, with_store}
use Rattle.gixobj_hash.specs.Hash.{encode_id_hex, id_of}
use Rattle.gixobj_hash.specs.Hash.Hex.{IsIdHexOfKind}
use Rattle.gixobj_hash.specs.declared.hash.kind.Kind as hash
use Rattle.gixobj_hash.specs.declared.hash.object_id.ObjectId.{ObjectId}
use Rattle.gixobj_hash.specs.declared.kind.Kind.TheVariants.{Commit}
use Rattle.gixobj_store_keep.specs.Keeping.{IsKeepCommitError, with_commit}
use Rattle.gixobj_store_keep.specs.declared.keeping.KeepError.{KeepError}
use Rattle.gixobj_grammar.specs.Commit.{DecodesToCommit}
use Rattle.gixobj_editor.specs.declared.reply.EditReply.TheVariants as reply
use Rattle.gixobj_editor_import.specs.Commits.{NamesSignature, only_parent, step_commit, encode_step}
use Rattle.gixobj_editor_import.specs.Edited.{AreDone, IsFailedAt, IsWriteAfter, IsWriteReplied}
use Rattle.gixobj_editor_import.specs.declared.import.ImportError.{ImportError}
use Rattle.gixobj_editor_import.specs.declared.import.ImportError.TheVariants as import
use Rattle.gixobj_editor_import.specs.declared.import.Imported.{Imported}
use Rattle.gixobj_editor_import.specs.declared.import.Importer.{Importer}
use Rattle.gixobj_editor_import.specs.declared.import.Step.{Step}
use Rattle.gixobj_store.specs.Stores.{StoreModel}

-- the importer with another store
abbrev pub over_store : {S : Type 0} → Importer S → S → Importer S
over_store importer store = record importer { editor = with_store importer.editor store }

-- the hex digits of each id are those of an id of this kind
abbrev pub HaveHex : hash.Kind → List ObjectId → Type 0
HaveHex hash ids = All (λ id. IsIdHexOfKind hash (encode_id_hex id)) ids

-- the error of a step's commit that isn't encoded: no commit may have its author or committer, or an allocation failed
abbrev pub IsStepEncodeError : Step → ImportError → Type 0
IsStepEncodeError step (import.Commit error) = (error ≡ IllegalActor)
    × (¬ (IsLegal step.author) ⊎ ¬ (IsLegal step.committer))
IsStepEncodeError step import.OutOfMemory = ⊤
IsStepEncodeError step other = ⊥

module _ {S : Type 0} (model : StoreModel S) where
  -- the store doesn't keep the commit; its objects, the ids whose lookup may fail, and the rest of the editor are
  -- unchanged
  pub record IsCommitUnkept (commit : ObjectId) (old : State S) (error : KeepError) (new : State S) : Type 0 where
    pub cause : IsKeepCommitError (model.may_fail old.store) commit error
    pub rest : new ≡ with_store old new.store
    pub unchanged : model.objects new.store ≡ model.objects old.store
    pub may_fail : (id : ObjectId) → model.may_fail new.store id ≡ model.may_fail old.store id

  -- the step's commit is encoded, and the store keeps it under the digest of its encoding
  pub record IsCommitKept (hash : hash.Kind) (step : Step) (tree : ObjectId) (parent : Option ObjectId) (old : State S)
      (commit : ObjectId) (new : State S) : Type 0 where
    pub author : NamesSignature (encode_owned_actor step.author) step.author
    pub committer : NamesSignature (encode_owned_actor step.committer) step.committer
    pub id : commit ≡ id_of hash Commit (encode_step step tree parent)
    pub hex : HaveHex hash (commit ∷ [])
    pub decodes : HaveHex hash (tree ∷ only_parent parent) → DecodesToCommit hash (encode_step step tree parent)
        (step_commit step tree parent)
    pub rest : new ≡ with_store old new.store
    pub stored : model.objects new.store ≡ with_commit commit (encode_step step tree parent) (model.objects old.store)
    pub may_fail : (it : ObjectId) → model.may_fail new.store it ≡ model.may_fail old.store it

  -- the error of a step's commit that isn't kept: no commit may have its author or committer, the store doesn't keep
  -- it, or an allocation failed
  abbrev pub IsStepCommitError : hash.Kind → Step → ObjectId → Option ObjectId → State S → ImportError → State S
      → Type 0
  IsStepCommitError hash step tree parent old (import.NotKept error) new =
      IsCommitUnkept (id_of hash Commit (encode_step step tree parent)) old error new
  IsStepCommitError hash step tree parent old error new = IsStepEncodeError step error × (new ≡ old)

  -- the error of a write by digests: the write fails, or the store doesn't keep all of its trees
  abbrev pub IsStepWriteError : hash.Kind → State S → ImportError → State S → Type 0
  IsStepWriteError hash old (import.Write error) new = IsWriteReplied model hash old (reply.WriteRefused error) new
  IsStepWriteError hash old (import.NotKept error) new = (it : Written) × (count : ℕ)
      × IsWriteReplied model hash old (reply.NotKept it count error) new
  IsStepWriteError hash old other new = ⊥

  -- the error of edits that aren't written and kept: one of them fails, or the write after them
  abbrev pub IsStepEditsError : hash.Kind → List Edit → State S → ImportError → State S → Type 0
  IsStepEditsError hash edits old (import.Edit index error) new = IsFailedAt model old edits index error new
  IsStepEditsError hash edits old error new = (edited : State S) × AreDone model old edits edited
      × IsStepWriteError hash edited error new

  -- the step is imported: its edits are done, the root is written by digests, and its trees and then its commit are
  -- kept
  pub record IsImported (old : Importer S) (step : Step) (it : Imported) (new : Importer S) : Type 0 where
    pub ready : old.failed ≡ false
    pub no_write : ¬ Contains step.edits.items edit.Write
    pub between : State S
    pub trees : IsWriteAfter model old.hash old.editor step.edits.items (reply.Written it.written) between
    pub root : HaveHex old.hash (it.written.id ∷ [])
    pub commit : IsCommitKept old.hash step it.written.id old.last between it.commit new.editor
    pub rest : new ≡ record old { editor = new.editor; last = Some it.commit }

  -- the trees of the step are written and kept, but its commit isn't
  pub record IsUncommitted (old : Importer S) (step : Step) (error : ImportError) (new : State S) : Type 0 where
    pub it : Written
    pub between : State S
    pub trees : IsWriteAfter model old.hash old.editor step.edits.items (reply.Written it) between
    pub cause : IsStepCommitError old.hash step it.id old.last between error new

  -- the step fails, and the importer with it: its edits aren't written and kept, or its commit isn't
  pub record IsStepFailed (old : Importer S) (step : Step) (error : ImportError) (new : Importer S) : Type 0 where
    pub ready : old.failed ≡ false
    pub no_write : ¬ Contains step.edits.items edit.Write
    pub cause : IsStepEditsError old.hash step.edits.items old.editor error new.editor
        ⊎ IsUncommitted old step error new.editor
    pub rest : new ≡ record old { editor = new.editor; failed = true }

  -- the error of a step, and the importer after it
  abbrev pub IsStepError : Importer S → Step → ImportError → Importer S → Type 0
  IsStepError old step import.Failed new = (old.failed ≡ true) × (new ≡ old)
  IsStepError old step import.WriteInStep new = (old.failed ≡ false) × Contains step.edits.items edit.Write
      × (new ≡ old)
  IsStepError old step error new = IsStepFailed old step error new

  -- the steps are imported, one after the other
  abbrev pub AreImported : Importer S → List Step → List Imported → Importer S → Type 0
  AreImported old [] [] new = new ≡ old
  AreImported old (step ∷ steps) (it ∷ imported) new = (between : Importer S) × IsImported old step it between
      × AreImported between steps imported new
  AreImported old steps imported new = ⊥

  -- the steps before the one of this number are imported, and that one fails
  pub record IsStoppedAt (old : Importer S) (steps : List Step) (done : List Imported) (error : ImportError)
      (new : Importer S) : Type 0 where
    pub failed_step : Step
    pub at : slice_get steps (length done) ≡ Some failed_step
    pub reached : Importer S
    pub imported : AreImported old (take (length done) steps) done reached
    pub cause : IsStepError reached failed_step error new

  -- the allocation of the list failed, and nothing was done
  pub record HasNoList (old : Importer S) (done : List Imported) (error : ImportError) (new : Importer S) : Type 0 where
    pub nothing : done ≡ []
    pub memory : error ≡ import.OutOfMemory
    pub unchanged : new ≡ old

  -- the error of an import that stops, and the importer after it
  abbrev pub Stops : Importer S → List Step → List Imported → ImportError → Importer S → Type 0
  Stops old steps done error new = IsStoppedAt old steps done error new ⊎ HasNoList old done error new

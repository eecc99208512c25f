-- The causes in errors of steps: trees that weren't encoded, and trees or a commit that the store didn't keep.
use Rattle.std.specs.Prelude.{◌≡◌, ◌⊎◌, ℕ, Err, List, Option, Some, length, slice_get, take, ⊤}
use Rattle.gixobj_editor_write.specs.declared.write.WriteError.TheVariants.{Out}
use Rattle.gixobj_editor_write.specs.declared.write.Written.{Written}
use Rattle.gixobj_editor_commands.specs.declared.command.Edit.{Edit}
use Rattle.gixobj_editor.specs.declared.reply.EditReply.TheVariants as reply
use Rattle.gixobj_editor_files.specs.State.{State}
use Rattle.gixobj_hash.specs.Hash.{id_of}
use Rattle.gixobj_hash.specs.declared.hash.kind.Kind as hash
use Rattle.gixobj_hash.specs.declared.hash.object_id.ObjectId.{ObjectId}
use Rattle.gixobj_hash.specs.declared.kind.Kind.TheVariants.{Commit}
use Rattle.gixobj_store_keep.specs.Keeping.{IsStoreErrorAt, KeepCommitErrors, KeepErrors}
use Rattle.gixobj_editor_import.specs.Commits.{encode_step}
use Rattle.gixobj_editor_import.specs.Edited.{AreDone, IsWriteAfter, IsWriteReplied}
use Rattle.gixobj_editor_import.specs.Steps.{AreImported}
use Rattle.gixobj_editor_import.specs.declared.import.ImportError.{ImportError}
use Rattle.gixobj_editor_import.specs.declared.import.ImportError.TheVariants as import
use Rattle.gixobj_editor_import.specs.declared.import.Imported.{Imported}
use Rattle.gixobj_editor_import.specs.declared.import.Importer.{Importer}
use Rattle.gixobj_editor_import.specs.declared.import.Step.{Step}
use Rattle.gixobj_store.specs.Stores.{StoreModel}
use Rattle.gixobj_tree_entries.specs.Entries.{EntryView}
use Rattle.gixobj_tree.specs.TreeEncoding.{IsDigestResult}

-- Write: if the payload isn't out of memory, it is the error of computing a tree's digest
abbrev pub HasEncodingCause : hash.Kind → ImportError → Type 0
HasEncodingCause hash (import.Write (Out error)) = (tree : List EntryView) × IsDigestResult hash tree (Err error)
HasEncodingCause hash other = ⊤

-- NotKept: the cause is an error of this store for the encoding of the step's commit, under its digest
abbrev pub HasCommitCause : {S : Type 0} → KeepCommitErrors S → S → hash.Kind → Step → ObjectId → Option ObjectId
    → ImportError → Type 0
HasCommitCause errors store hash step tree parent (import.NotKept error) =
    errors store (id_of hash Commit (encode_step step tree parent)) (encode_step step tree parent) error
HasCommitCause errors store hash step tree parent other = ⊤

module _ {S : Type 0} (model : StoreModel S) (tree_errors : KeepErrors S) where
  -- NotKept: the cause is an error of the store, as it was before the write, for the first tree of the write that isn't
  -- kept, after those before it are kept
  abbrev pub HasTreeCause : hash.Kind → State S → ImportError → State S → Type 0
  HasTreeCause hash old (import.NotKept error) new = (it : Written) × (count : ℕ)
      × IsWriteReplied model hash old (reply.NotKept it count error) new
      × IsStoreErrorAt model.objects tree_errors old.store it.trees.items count error
  HasTreeCause hash old other new = ⊤

  -- NotKept: the edits are done, and the cause is that of the write after them
  abbrev pub HasTreeCauseAfter : hash.Kind → State S → List Edit → ImportError → State S → Type 0
  HasTreeCauseAfter hash old edits (import.NotKept error) new = (edited : State S) × AreDone model old edits edited
      × HasTreeCause hash edited (import.NotKept error) new
  HasTreeCauseAfter hash old edits other new = ⊤

module _ {S : Type 0} (model : StoreModel S) (tree_errors : KeepErrors S) (commit_errors : KeepCommitErrors S) where
  -- the trees of the step are written and kept; NotKept: the cause is an error of the store, as it then was, for the
  -- step's commit
  pub record HasCommitCauseAfter (old : Importer S) (step : Step) (error : ImportError) : Type 0 where
    pub it : Written
    pub between : State S
    pub trees : IsWriteAfter model old.hash old.editor step.edits.items (reply.Written it) between
    pub cause : HasCommitCause commit_errors between.store old.hash step it.id old.last error

  -- NotKept: the cause is that of the write of the step, or that of its commit
  abbrev pub HasStepCause : Importer S → Step → ImportError → Importer S → Type 0
  HasStepCause old step error new = HasTreeCauseAfter model tree_errors old.hash old.editor step.edits.items error
      new.editor ⊎ HasCommitCauseAfter old step error

  -- NotKept: the cause is that of the step after those that were imported
  abbrev pub HasImportCause : Importer S → List Step → List Imported → ImportError → Importer S → Type 0
  HasImportCause old steps done (import.NotKept error) new = (step : Step)
      × (slice_get steps (length done) ≡ Some step) × (reached : Importer S)
      × AreImported model old (take (length done) steps) done reached
      × HasStepCause reached step (import.NotKept error) new
  HasImportCause old steps done other new = ⊤

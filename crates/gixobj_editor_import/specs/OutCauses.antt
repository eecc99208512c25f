-- The cause of a failed write: the error that the closure returned for an emitted tree, or an allocation that failed.
use Rattle.std.specs.Prelude.{List, Result, ⊤}
use Rattle.std.specs.Fn.{CalledAt, Mut}
use Rattle.std.specs.List.{FoldsTo}
use denote.Ref.{Bor}
use Rattle.gixobj_editor_write.specs.Calls.{answered}
use Rattle.gixobj_editor_write.specs.WriteErrors.{IsWriteError}
use Rattle.gixobj_editor_commands.specs.declared.command.Edit.{Edit}
use Rattle.gixobj_streams.specs.declared.encode.Error as encode
use Rattle.gixobj_editor_files.specs.Emission.{EmitsSome}
use Rattle.gixobj_editor_files.specs.State.{State, open_bases, open_dirs}
use Rattle.gixobj_hash.specs.declared.hash.kind.Kind as hash
use Rattle.gixobj_hash.specs.declared.hash.object_id.ObjectId.{ObjectId}
use Rattle.gixobj_editor_import.specs.Edited.{AreDone}
use Rattle.gixobj_editor_import.specs.declared.import.ImportError.{ImportError}
use Rattle.gixobj_editor_import.specs.declared.import.ImportError.TheVariants as import
use Rattle.gixobj_store.specs.Stores.{StoreModel}
use Rattle.gixobj_tree_entries.specs.Entries.{EntryView, Pair}
use Rattle.gixobj_tree.specs.TreeEncoding.{IsDigestResult}

-- each result of the closure is one of computing a tree's digest, now and after any calls that it answered with ids
abbrev pub ReturnsDigests : {F : Type 0} → hash.Kind
    → Mut F (Bor (List EntryView) × Unit {0}) (Result ObjectId encode.Error) → F → Type 0
ReturnsDigests {F} hash of out = (pairs : List Pair) (state : F) → FoldsTo (answered of) out pairs state
    → (tree : List EntryView) (answer : Result ObjectId encode.Error) (after : F) → CalledAt of state tree answer after
    → IsDigestResult hash tree answer

module _ {F : Type 0} (gave : F → Pair → F → Type 0) (denies : F → List EntryView → encode.Error → F → Type 0) where
  -- Write: the payload is the error that the closure returned for a tree that the write emits; or it is out of memory,
  -- and the closure returned ids alone
  abbrev pub HasOutCause : {S : Type 0} → State S → F → F → ImportError → Type 0
  HasOutCause editor before after (import.Write error) =
      IsWriteError gave denies (EmitsSome (open_dirs editor) (open_bases editor)) before after error
  HasOutCause editor before after other = ⊤

  -- Write: the edits are done, and the cause is one of the write after them
  abbrev pub HasOutCauseAfter : {S : Type 0} → StoreModel S → State S → List Edit → F → F → ImportError → Type 0
  HasOutCauseAfter {S} model old edits before after (import.Write error) =
      (edited : State S) × AreDone model old edits edited × HasOutCause edited before after (import.Write error)
  HasOutCauseAfter model old edits before after other = ⊤

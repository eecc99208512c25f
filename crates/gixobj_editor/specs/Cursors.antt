-- Effects and errors of the calls of a cursor, which are those of its editor at paths from the root.
pub mod Stores
use Rattle.std.specs.Prelude.{◌≡◌, ◌≢◌, ◌⊎◌, ◌++◌, ℕ, Bool, List, [], ◌∷◌, All, Some}
use Rattle.std.specs.List.{FoldsTo}
use Rattle.gixobj_editor_lookups.specs.Openings.{OfTrees}
use Rattle.gixobj_store.specs.Stores.{StoreModel, Objects}
use Rattle.gixobj_editor_write.specs.Calls.{AreNames, IsStorable}
use Rattle.gixobj_editor_lookups.specs.declared.opening.Error.TheVariants as opening
use Rattle.gixobj_editor_write.specs.declared.write.Written.{Written}
use Rattle.gixobj_editor_files.specs.Bases.{HasBases, edited_bases, opened_bases}
use Rattle.gixobj_editor_files.specs.Edits.{IsNoTree, Opens, ensured_dirs, only_open, with_path, raised}
use Rattle.gixobj_editor_files.specs.Files.{Ensured, NamedFiles, Path, SameFiles, Table, Trees}
use Rattle.gixobj_editor_files.specs.OpeningStops.{IsUnopenedAbove}
use Rattle.gixobj_editor_files.specs.Emission.{Emits}
use Rattle.gixobj_editor_files.specs.Opening.{Dirs, IsOpened, in_path}
use Rattle.gixobj_editor_files.specs.State.{EditorFiles, FilesBelow, State, open_bases, open_dirs}
use Rattle.gixobj_editor_files.specs.Tables.{AgreesWithPairs, AgreesWithStore}
use Rattle.gixobj_editor_files.specs.Unopened.{with_empty_name, unopened_count}
use Rattle.gixobj_hash.specs.Hash.{null_id}
use Rattle.gixobj_hash.specs.declared.hash.object_id.ObjectId.{ObjectId}
use Rattle.gixobj_tree_entries.specs.Entries.{EntryView, Pair}
use Rattle.gixobj_editor_lookups.specs.RemovalErrors.{EditErrors}
use Rattle.gixobj_editor_lookups.specs.EditNames.{IsFirstNameError}
use Rattle.gixobj_editor.specs.Upserts.{IsNameError, IsUnopenedError}
use Rattle.gixobj_editor.specs.FailedEdits.{HasCountedIn, IsFailedEditIn}
use Rattle.gixobj_editor_lookups.specs.declared.error.Error.{Error}
use Rattle.gixobj_editor_lookups.specs.declared.error.Error.TheVariants as error
pub use Rattle.gixobj_editor_lookups.specs.EditNames.{from_root}
pub use Rattle.gixobj_editor_lookups.specs.UpsertErrors.{IsCursorEditError}

-- the path of a cursor's directory: the root's if there are no names, or a single empty name; else the path itself
abbrev pub cursor_path : Path → Path
cursor_path ([] ∷ []) = []
cursor_path path = path

-- the errors of a cursor at a path: that of the first invalid name. If each name is valid, that of an unopened
-- directory at or above the path: the store doesn't have it as a well-formed tree, or its lookup fails. Or out of
-- memory, if the path has names
abbrev pub IsCursorError : Objects → (ObjectId → Bool) → Trees → Dirs → Path → Error → Type 0
IsCursorError objects may_fail trees dirs path error.EmptyPathComponent = IsFirstNameError path error.EmptyPathComponent
IsCursorError objects may_fail trees dirs path error.SlashInPathComponent =
    IsFirstNameError path error.SlashInPathComponent
IsCursorError objects may_fail trees dirs path (error.FindExistingObject cause) = AreNames path
    × IsUnopenedError objects may_fail trees dirs (with_empty_name path) (opening.FindExistingObject cause)
IsCursorError objects may_fail trees dirs path error.MalformedTree = AreNames path
    × IsUnopenedError objects may_fail trees dirs (with_empty_name path) opening.MalformedTree
IsCursorError objects may_fail trees dirs path (error.CannotRemoveNonLeaf at) = ⊥
IsCursorError objects may_fail trees dirs path error.OutOfMemory = AreNames path × (path ≢ [])

-- the effect of a cursor at a path that fails with this error: that of a failed edit in the directory; the editor is
-- unchanged after an invalid name, and has counted each lookup if memory ran out
abbrev pub IsFailedCursorIn : {S : Type 0} → StoreModel S → State S → Path → State S → Error → Type 0
IsFailedCursorIn model old path new failure =
    IsFailedEditIn model old (with_empty_name path) new failure × (IsNameError failure → new ≡ old)
    × HasCountedIn model.objects IsNoTree old (with_empty_name path) new failure

-- the error of an edit at this path from the prefix, by the store's trees and the open directories
abbrev pub IsErrorBelow : {S : Type 0} → StoreModel S → State S → EditErrors → Path → Error → Type 0
IsErrorBelow model state Rejects path error =
    OfTrees (model.objects state.store) (λ trees. IsCursorEditError path
    (Rejects (model.objects state.store) (model.may_fail state.store) trees (open_dirs state)
    (from_root state.prefix path)) error)

-- the effect of a new cursor at a path. Its directory is open, with the entries that it had, or none if it is made. The
-- path is the prefix. The record states the open directories, the lookups and the files; the rest is unchanged
pub record IsEnsured {S : Type 0} (trees : Trees) (old : State S) (path : Path) (new : State S) : Type 0 where
  pub names : AreNames path
  -- the directories at and above the path are opened, and then the missing ones are made
  pub opened : Dirs
  pub looked_up : List ObjectId
  pub opens : Opens IsNoTree trees path (open_dirs old) opened looked_up
  pub dirs : (at : Path) → open_dirs new at ≡ ensured_dirs path (null_id old.object_hash) opened at
  pub bases : (at : Path) → open_bases new at ≡ edited_bases opened (open_dirs new)
      (opened_bases (open_dirs old) opened (open_bases old)) at
  pub lookups : new.lookups ≡ raised old.lookups (unopened_count trees (open_dirs old) (with_empty_name path))
  pub rest : new ≡ record old { dirs = new.dirs; bases = new.bases; lookups = new.lookups; prefix = path }
  pub is_opened : IsOpened (open_dirs new)
  -- the store has each unopened directory at or above the path
  pub known : (it : ObjectId) → IsUnopenedAbove trees (open_dirs old) (with_empty_name path) it
      → (entries : List EntryView) × (trees it ≡ Some entries)
  pub files : (T : Table) (n : ℕ) → AgreesWithStore T trees
      → SameFiles (EditorFiles T n new) (Ensured path (EditorFiles T n old))
  -- every table that agrees with the store and has the old bases has the new ones
  pub has_bases : (T : Table) → AgreesWithStore T trees → HasBases T (open_dirs old) (open_bases old)
      → HasBases T (open_dirs new) (open_bases new)

-- the effect of a write of the directory at a prefix. The emitted pairs end with that of the directory, and the closure
-- was called on these trees alone, in this order. Then the directory is open with the last emitted tree, and no
-- directory in it is open. The rest is unchanged. The named tree has exactly the files below the prefix; the editor's
-- files are unchanged
pub record IsWrittenBelow {S F : Type 0} (gave : F → Pair → F → Type 0) (before : F) (old : State S) (prefix : Path)
    (it : Written) (new : State S) (after : F) : Type 0 where
  pub emitted : Emits (in_path prefix (open_dirs old)) (in_path prefix (open_bases old)) it.saved it.trees.items
  pub called : FoldsTo gave before it.trees.items after
  pub storable : All (λ pair. IsStorable pair.1) it.trees.items
  pub below : List Pair
  pub written_tree : List EntryView
  pub last : it.trees.items ≡ below ++ (it.id, written_tree) ∷ []
  pub dirs : (at : Path) → open_dirs new at ≡ with_path prefix (only_open written_tree) (open_dirs old) at
  pub bases : (at : Path) → open_bases new at ≡ edited_bases (open_dirs old) (open_dirs new) (open_bases old) at
  pub rest : new ≡ record old { dirs = new.dirs; bases = new.bases }
  pub is_opened : IsOpened (open_dirs new)
  pub files : (T : Table) (n : ℕ) → AgreesWithPairs T it.trees.items → HasBases T (open_dirs old) (open_bases old)
      → SameFiles (NamedFiles T n it.id) (FilesBelow T n prefix old)
  pub same_files : (T : Table) (n : ℕ) → AgreesWithPairs T it.trees.items → HasBases T (open_dirs old) (open_bases old)
      → SameFiles (EditorFiles T n new) (EditorFiles T n old)
  pub has_bases : (T : Table) → HasBases T (open_dirs old) (open_bases old)
      → HasBases T (open_dirs new) (open_bases new)

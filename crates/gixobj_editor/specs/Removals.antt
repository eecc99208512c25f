-- Effects and errors of removals by an editor (git-update-index, `--force-remove`).
use Rattle.std.specs.Prelude.{◌≡◌, ◌⊎◌, ℕ, Bool, true, false, List, [], Some, ⊤}
use Rattle.gixobj_store.specs.Stores.{Objects}
use Rattle.gixobj_editor_lookups.specs.declared.opening.Error.TheVariants as opening
use Rattle.gixobj_editor_files.specs.Bases.{HasBases, edited_bases, opened_bases}
use Rattle.gixobj_editor_files.specs.Edits.{IsNoTree, IsNotLookedUp, Opens, removed_dirs, raised}
use Rattle.gixobj_editor_files.specs.Files.{Path, Removed, SameFiles, Table, Trees}
use Rattle.gixobj_editor_files.specs.OpeningStops.{IsUnopenedAbove}
use Rattle.gixobj_editor_files.specs.Opening.{Dirs, IsOpened}
use Rattle.gixobj_editor_files.specs.State.{EditorFiles, State, open_bases, open_dirs}
use Rattle.gixobj_editor_files.specs.Tables.{AgreesWithStore}
use Rattle.gixobj_editor_files.specs.Unopened.{looked_up_entry, unopened_count}
use Rattle.gixobj_hash.specs.declared.hash.object_id.ObjectId.{ObjectId}
use Rattle.gixobj_tree_entries.specs.Entries.{EntryView}
use Rattle.gixobj_tree.specs.WellFormed.{IsEntryName}
use Rattle.gixobj_tree_entries.specs.Mode.{is_tree_mode}
use Rattle.gixobj_editor_lookups.specs.EditNames.{directory_of}
use Rattle.gixobj_editor_lookups.specs.RemovalErrors.{EditErrors}
use Rattle.gixobj_editor_lookups.specs.declared.error.Error.{Error}
use Rattle.gixobj_editor_lookups.specs.declared.error.Error.TheVariants as error
pub use Rattle.gixobj_editor_lookups.specs.RemovalErrors.{HasInvalidName, IsLeafDirectoryError, IsOpenErrorOnPath}
pub use Rattle.gixobj_editor_lookups.specs.RemovalErrors.{IsRemovalErrorUpTo, ValidatesUpTo}

-- the errors of a removal; its opening ends only before an entry that isn't of tree mode
abbrev pub IsRemovalError : EditErrors
IsRemovalError = IsRemovalErrorUpTo IsNoTree

-- a directory is at the path: by the open directories, else by the store's trees
abbrev pub IsDirectory : Trees → Dirs → Path → Type 0
IsDirectory trees dirs path = (e : EntryView) × (looked_up_entry trees path dirs ≡ Some e)
    × (is_tree_mode e.mode ≡ true)

-- the errors of the removal of a leaf: those of a removal, and that for a directory at the path
abbrev pub IsLeafRemovalError : Objects → (ObjectId → Bool) → Trees → Dirs → Path → Error → Type 0
IsLeafRemovalError objects may_fail trees dirs path error =
    IsRemovalErrorUpTo IsNotLookedUp objects may_fail trees dirs path error
    ⊎ (IsDirectory trees dirs path × IsLeafDirectoryError path error)

-- the effect of an accepted removal whose opening ends before such entries: the open directories, the lookups and the
-- files; the rest is unchanged
pub record IsRemovedUpTo {S : Type 0} (StopsBefore : EntryView → Type 0) (trees : Trees) (old : State S) (path : Path)
    (new : State S) : Type 0 where
  -- each name that it reaches is valid
  pub names : (name : List ℕ) → ValidatesUpTo StopsBefore trees (open_dirs old) path name → IsEntryName name
  -- the directories above the path are opened, and then the entry is removed
  pub opened : Dirs
  pub looked_up : List ObjectId
  pub opens : Opens StopsBefore trees (directory_of path) (open_dirs old) opened looked_up
  pub dirs : (at : Path) → open_dirs new at ≡ removed_dirs path opened at
  pub bases : (at : Path) → open_bases new at ≡ edited_bases opened (open_dirs new)
      (opened_bases (open_dirs old) opened (open_bases old)) at
  pub lookups : new.lookups ≡ raised old.lookups (unopened_count trees (open_dirs old) path)
  pub rest : new ≡ record old { dirs = new.dirs; bases = new.bases; lookups = new.lookups }
  pub is_opened : IsOpened (open_dirs new)
  -- the store has each unopened directory above the path
  pub known : (it : ObjectId) → IsUnopenedAbove trees (open_dirs old) path it → (entries : List EntryView)
      × (trees it ≡ Some entries)
  pub files : (T : Table) (n : ℕ) → AgreesWithStore T trees
      → SameFiles (EditorFiles T n new) (Removed path (EditorFiles T n old))
  -- every table that agrees with the store and has the old bases has the new ones
  pub has_bases : (T : Table) → AgreesWithStore T trees → HasBases T (open_dirs old) (open_bases old)
      → HasBases T (open_dirs new) (open_bases new)

-- the effect of an accepted removal; its opening ends only before an entry that isn't of tree mode
abbrev pub IsRemoved : {S : Type 0} → Trees → State S → Path → State S → Type 0
IsRemoved trees old path new = IsRemovedUpTo IsNoTree trees old path new

-- the effect of an accepted removal of a leaf: no directory was at the path
pub record IsLeafRemoved {S : Type 0} (trees : Trees) (old : State S) (path : Path) (new : State S) : Type 0 where
  pub removed : IsRemovedUpTo IsNotLookedUp trees old path new
  pub leaf : (e : EntryView) → looked_up_entry trees path (open_dirs old) ≡ Some e → is_tree_mode e.mode ≡ false

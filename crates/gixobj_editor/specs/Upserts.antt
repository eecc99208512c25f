-- Effects and errors of upserts by an editor (git-update-index, `--cacheinfo`).
use Rattle.std.specs.Prelude.{◌≡◌, ◌≢◌, ◌⊎◌, ℕ, Bool, List, [], Some, ⊤}
use Rattle.gixobj_store.specs.Stores.{StoreModel, Objects}
use Rattle.gixobj_editor_open.specs.Paths.{AreNames}
use Rattle.gixobj_editor_lookups.specs.Openings.{OfTrees, IsDirectoryError}
use Rattle.gixobj_editor_files.specs.Bases.{HasBases, edited_bases, opened_bases}
use Rattle.gixobj_editor_lookups.specs.declared.opening.Error as directory
use Rattle.gixobj_editor_lookups.specs.declared.opening.Error.TheVariants as opening
use Rattle.gixobj_editor_files.specs.Edits.{IsNoTree, Opens, raised, upserted_dirs}
use Rattle.gixobj_editor_files.specs.Files.{Path, SameFiles, Table, Trees, Upserted}
use Rattle.gixobj_editor_files.specs.OpeningStops.{IsUnopenedAbove}
use Rattle.gixobj_editor_files.specs.Opening.{Dirs, IsOpened}
use Rattle.gixobj_editor_files.specs.State.{EditorFiles, State, open_bases, open_dirs}
use Rattle.gixobj_editor_files.specs.Tables.{AgreesWithStore}
use Rattle.gixobj_editor_files.specs.Unopened.{unopened_count}
use Rattle.gixobj_hash.specs.Hash.{null_id}
use Rattle.gixobj_hash.specs.declared.hash.object_id.ObjectId.{ObjectId}
use Rattle.gixobj_tree_entries.specs.Entries.{EntryView}
use Rattle.gixobj_editor_lookups.specs.declared.error.Error.{Error}
use Rattle.gixobj_editor_lookups.specs.declared.error.Error.TheVariants as error
pub use Rattle.gixobj_editor_lookups.specs.EditNames.{IsEntryNameError, IsFirstNameError, SplitsForRemoval}
pub use Rattle.gixobj_editor_lookups.specs.EditNames.{StartsInvalid, directory_of}
pub use Rattle.gixobj_editor_lookups.specs.RemovalErrors.{EditErrors}
pub use Rattle.gixobj_editor_lookups.specs.UpsertErrors.{IsNameError, IsOpenErrorAbove, IsUnopenedError, IsUpsertError}

-- the error of an edit at this path, by the store's trees and the open directories
abbrev pub IsErrorIn : {S : Type 0} → StoreModel S → State S → EditErrors → Path → Error → Type 0
IsErrorIn model state Rejects path error =
    OfTrees (model.objects state.store)
    (λ trees. Rejects (model.objects state.store) (model.may_fail state.store) trees (open_dirs state) path error)

-- the effect of an accepted upsert: the open directories, the lookups and the files; the rest is unchanged
pub record IsUpserted {S : Type 0} (trees : Trees) (old : State S) (path : Path) (mode : ℕ) (id : ObjectId)
    (new : State S) : Type 0 where
  pub names : AreNames path
  -- the directories above the path are opened, and then the entry is inserted
  pub opened : Dirs
  pub looked_up : List ObjectId
  pub opens : Opens IsNoTree trees (directory_of path) (open_dirs old) opened looked_up
  pub dirs : (at : Path) → open_dirs new at ≡ upserted_dirs path mode id (null_id old.object_hash) opened at
  pub bases : (at : Path) → open_bases new at ≡ edited_bases opened (open_dirs new)
      (opened_bases (open_dirs old) opened (open_bases old)) at
  pub lookups : new.lookups ≡ raised old.lookups (unopened_count trees (open_dirs old) path)
  pub rest : new ≡ record old { dirs = new.dirs; bases = new.bases; lookups = new.lookups }
  pub is_opened : IsOpened (open_dirs new)
  -- the store has each unopened directory above the path
  pub known : (it : ObjectId) → IsUnopenedAbove trees (open_dirs old) path it → (entries : List EntryView)
      × (trees it ≡ Some entries)
  pub files : (T : Table) (n : ℕ) → AgreesWithStore T trees
      → SameFiles (EditorFiles T n new) (Upserted T n path mode id (EditorFiles T n old))
  -- every table that agrees with the store and has the old bases has the new ones
  pub has_bases : (T : Table) → AgreesWithStore T trees → HasBases T (open_dirs old) (open_bases old)
      → HasBases T (open_dirs new) (open_bases new)

-- The effect of a failed edit: how far it opened directories, which lookups it made, and which of them failed.
use Rattle.std.specs.Prelude.{◌≡◌, ℕ, List, [], Some, ⊤}
use Rattle.gixobj_store.specs.Stores.{Objects, StoreModel}
use Rattle.gixobj_editor_lookups.specs.Openings.{EndsBefore, OfTrees}
use Rattle.gixobj_editor_lookups.specs.declared.opening.NotLookedUp.{NotLookedUp}
use Rattle.gixobj_editor_files.specs.Bases.{HasBases, opened_bases}
use Rattle.gixobj_editor_lookups.specs.declared.opening.Error.TheVariants as opening
use Rattle.gixobj_editor_files.specs.Files.{Path, SameFiles, Table, Trees}
use Rattle.gixobj_editor_files.specs.Opening.{IsOpened}
use Rattle.gixobj_editor_files.specs.State.{EditorFiles, State, open_bases, open_dirs}
use Rattle.gixobj_editor_files.specs.Tables.{AgreesWithStore}
use Rattle.gixobj_tree_entries.specs.Entries.{EntryView}
use Rattle.gixobj_editor_lookups.specs.declared.error.Error.{Error}
use Rattle.gixobj_editor_lookups.specs.declared.error.Error.TheVariants as error
pub use Rattle.gixobj_editor_lookups.specs.FailedOpenings.{HasCounted, IsErrorAfterLookup, IsLookupError, OpensInPart}
pub use Rattle.gixobj_editor_lookups.specs.FailedOpenings.{edit_error}

-- the effect of an edit that fails with this error: directories on the path are opened in part. An open directory is
-- still open, with its entries. The files and the rest are unchanged
pub record IsAfterFailedEdit {S : Type 0} (model : StoreModel S) (trees : Trees) (old : State S) (path : Path)
    (failure : Error) (new : State S) : Type 0 where
  pub not_looked_up : NotLookedUp
  pub opening : OpensInPart (EndsBefore not_looked_up) (model.objects old.store) (model.may_fail old.store) trees path
      (open_dirs old) (open_dirs new) old.lookups new.lookups failure
  pub bases : (at : Path) → open_bases new at ≡ opened_bases (open_dirs old) (open_dirs new) (open_bases old) at
  pub stays : (at : Path) (entries : List EntryView) → open_dirs old at ≡ Some entries → open_dirs new at ≡ Some entries
  pub rest : new ≡ record old { dirs = new.dirs; bases = new.bases; lookups = new.lookups }
  pub is_opened : IsOpened (open_dirs new)
  pub files : (T : Table) (n : ℕ) → AgreesWithStore T trees → SameFiles (EditorFiles T n new) (EditorFiles T n old)
  -- every table that agrees with the store and has the old bases has the new ones
  pub has_bases : (T : Table) → AgreesWithStore T trees → HasBases T (open_dirs old) (open_bases old)
      → HasBases T (open_dirs new) (open_bases new)

-- the effect of an edit at this path that fails with this error, by the store's trees
abbrev pub IsFailedEditIn : {S : Type 0} → StoreModel S → State S → Path → State S → Error → Type 0
IsFailedEditIn model old path new failure =
    OfTrees (model.objects old.store) (λ trees. IsAfterFailedEdit model trees old path failure new)

-- an edit at this path that runs out of memory has counted each lookup, by the store's trees
abbrev pub HasCountedIn : {S : Type 0} → (S → Objects) → (EntryView → Type 0) → State S → Path → State S → Error
    → Type 0
HasCountedIn objects StopsBefore old path new failure = OfTrees (objects old.store) (λ trees.
    HasCounted StopsBefore trees path (open_dirs old) (open_dirs new) old.lookups new.lookups failure)

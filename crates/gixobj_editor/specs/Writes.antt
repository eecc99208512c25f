-- The effect of a write of an editor's root (git-write-tree). Which trees it emits, and which directories it leaves out
-- as empty or null, is in Emission.antt of gixobj_editor_files.
use Rattle.std.specs.Prelude.{◌≡◌, ◌++◌, ℕ, List, [], ◌∷◌, All}
use Rattle.std.specs.List.{FoldsTo}
use Rattle.gixobj_editor_write.specs.Calls.{IsStorable}
use Rattle.gixobj_editor_write.specs.declared.write.Written.{Written}
use Rattle.gixobj_editor_files.specs.Bases.{HasBases, edited_bases}
use Rattle.gixobj_editor_files.specs.Files.{NamedFiles, Path, SameFiles, Table}
use Rattle.gixobj_editor_files.specs.Emission.{Emits}
use Rattle.gixobj_editor_files.specs.State.{EditorFiles, State, open_bases, open_dirs, root_alone}
use Rattle.gixobj_editor_files.specs.Tables.{AgreesWithPairs}
use Rattle.gixobj_tree_entries.specs.Entries.{EntryView, Pair}

-- the effect of a successful write. The emitted pairs end with that of the root, and the closure was called on these
-- trees alone, in this order. Then the root alone is open, with the last emitted tree. The named tree has the editor's
-- files, which are unchanged
pub record IsWrittenEditor {S F : Type 0} (gave : F → Pair → F → Type 0) (before : F) (old : State S) (it : Written)
    (new : State S) (after : F) : Type 0 where
  pub emitted : Emits (open_dirs old) (open_bases old) it.saved it.trees.items
  pub called : FoldsTo gave before it.trees.items after
  pub storable : All (λ pair. IsStorable pair.1) it.trees.items
  pub below : List Pair
  pub written_tree : List EntryView
  pub last : it.trees.items ≡ below ++ (it.id, written_tree) ∷ []
  pub dirs : new.dirs ≡ root_alone written_tree
  pub bases : (at : Path) → open_bases new at ≡ edited_bases (open_dirs old) (open_dirs new) (open_bases old) at
  pub rest : new ≡ record old { dirs = new.dirs; bases = new.bases }
  pub files : (T : Table) (n : ℕ) → AgreesWithPairs T it.trees.items → HasBases T (open_dirs old) (open_bases old)
      → SameFiles (NamedFiles T n it.id) (EditorFiles T n old)
  pub same_files : (T : Table) (n : ℕ) → AgreesWithPairs T it.trees.items → HasBases T (open_dirs old) (open_bases old)
      → SameFiles (EditorFiles T n new) (EditorFiles T n old)
  pub has_bases : (T : Table) → HasBases T (open_dirs new) (open_bases new)

-- The open directories of an editor, and its files.
use Rattle.std.specs.Prelude.{◌≡◌, ◌≢◌, ℕ, zero, suc, List, [], ◌∷◌, ◌++◌, IsTrue, MatchOption, Option, Some, None}
use Rattle.gixobj_tree_entries.specs.Entries.{EntryView}
use Rattle.gixobj_tree.specs.WellFormed.{IsWellFormed}
use Rattle.gixobj_tree_entries.specs.Mode.{is_tree_mode}
use Rattle.gixobj_editor_files.specs.Files.{Below, FileSet, Files, ContainsEntry, Path, Table}

-- the entries of each open directory, by its path
abbrev pub Dirs : Type 0
Dirs = Path → Option (List EntryView)

-- the open directories at and below a name
abbrev pub in_dir : List ℕ → Dirs → Dirs
in_dir name dirs = λ path. dirs (name ∷ path)

-- the open directories at and below a path
abbrev pub in_path : Path → Dirs → Dirs
in_path path dirs = λ at. dirs (path ++ at)

-- the directory is open and has the entry
abbrev pub HasAt : Option (List EntryView) → EntryView → Type 0
HasAt None e = ⊥
HasAt (Some entries) e = ContainsEntry entries e

-- the files of open directories; an open directory replaces the tree that its entry names
abbrev pub OpenFiles : Table → ℕ → Dirs → FileSet
OpenFiles T zero dirs path mode id = ⊥
OpenFiles T (suc n) dirs [] mode id = ⊥
OpenFiles T (suc n) dirs (name ∷ path) mode id =
    (e : EntryView) × HasAt (dirs []) e × (e.name ≡ name)
    × MatchOption (dirs (name ∷ [])) (Below T (Files T n) e.mode e.id path mode id)
    (λ _. OpenFiles T n (in_dir name dirs) path mode id)

-- the invariant of open directories; the root is open, each open directory is well-formed, and each but the root has an
-- entry of tree mode in the open directory above it
pub record IsOpened (dirs : Dirs) : Type 0 where
  pub root : dirs [] ≢ None
  pub well_formed : (path : Path) (entries : List EntryView) → dirs path ≡ Some entries → IsWellFormed entries
  pub above : (path : Path) (name : List ℕ) (entries : List EntryView) → dirs (path ++ name ∷ []) ≡ Some entries
      → (e : EntryView) × HasAt (dirs path) e × (e.name ≡ name) × IsTrue (is_tree_mode e.mode)

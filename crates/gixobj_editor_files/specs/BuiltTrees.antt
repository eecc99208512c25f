-- Trees that are built from pairs, which their files determine; and statements of laws of files.
use Rattle.std.specs.Prelude.{◌≡◌, ◌≢◌, ◌↔◌, ℕ, true, false, List, [], Contains, Some}
use Rattle.gixobj_tree_entries.specs.Entries.{EntryView, Pair}
use Rattle.gixobj_tree_entries.specs.Mode.{is_tree_mode, tree_type}
use Rattle.gixobj_tree.specs.WellFormed.{IsWellFormed}
use Rattle.gixobj_hash.specs.Hash.{IsNull}
use Rattle.gixobj_hash.specs.declared.hash.object_id.ObjectId.{ObjectId}
use Rattle.gixobj_editor_files.specs.Files.{Below, ContainsEntry, Files, SameFiles, Table, is_null}
use Rattle.gixobj_editor_files.specs.Tables.{AgreesWithPairs, HasOneIdPerTree}

-- a well-formed list without null ids
pub record IsClean (entries : List EntryView) : Type 0 where
  pub formed : IsWellFormed entries
  pub filled : (e : EntryView) → ContainsEntry entries e → is_null e.id ≡ false

-- a tree whose directories have the ids of pairs with trees that aren't empty and are built in turn
pub data IsBuilt (pairs : List Pair) : List EntryView → Type 0 where
  built : (entries : List EntryView) → IsClean entries
      → ((e : EntryView) → ContainsEntry entries e → is_tree_mode e.mode ≡ true → e.mode ≡ tree_type)
      → (tree : (e : EntryView) → ContainsEntry entries e → is_tree_mode e.mode ≡ true → List EntryView)
      → ((e : EntryView) (h : ContainsEntry entries e) (t : is_tree_mode e.mode ≡ true) → tree e h t ≢ [])
      → ((e : EntryView) (h : ContainsEntry entries e) (t : is_tree_mode e.mode ≡ true)
      → Contains pairs (e.id, tree e h t))
      → ((e : EntryView) (h : ContainsEntry entries e) (t : is_tree_mode e.mode ≡ true) → IsBuilt pairs (tree e h t))
      → IsBuilt pairs entries

-- two trees that are built from pairs of a table are equal if their files are, and no tree of the pairs has two ids
abbrev pub BuiltTreesAreUnique : Type 0
BuiltTreesAreUnique = (T : Table) (pairs : List Pair) → AgreesWithPairs T pairs → HasOneIdPerTree pairs
    → (tree : List EntryView) → IsBuilt pairs tree → (other : List EntryView) → IsBuilt pairs other
    → ((n : ℕ) → SameFiles (Files T n tree) (Files T n other)) → tree ≡ other

-- the files at and below an entry of tree mode are those of the tree that the table has by its id
abbrev pub DirectoryHasFilesOfTree : Type 0
DirectoryHasFilesOfTree = (T : Table) (n mode : ℕ) (id : ObjectId) (tree : List EntryView) → is_tree_mode mode ≡ true
    → T.tree_at id ≡ Some tree → SameFiles (Below T (Files T n) mode id) (Files T n tree)

-- the test for a null id passes if and only if each byte of the id is zero
abbrev pub NullIdTestDecides : Type 0
NullIdTestDecides = (id : ObjectId) → (is_null id ≡ true) ↔ IsNull id

-- The state of an editor as contracts see it.
pub mod Codes
use Rattle.std.specs.Prelude.{ℕ, ◌+◌, ◌++◌, List, [], length}
use Rattle.std.specs.Ordering.{nat_cmp}
use Rattle.std.specs.Cmp.Lexicographic.{slice_cmp}
use Rattle.std.specs.FinMap.{FinMap}
use Rattle.std.specs.FinMap as map
use Rattle.gixobj_tree_entries.specs.Entries.{EntryView}
use Rattle.gixobj_hash.specs.declared.hash.kind.Kind.{Kind}
use Rattle.gixobj_editor_files.specs.Files.{FileSet, Path, Table}
use Rattle.gixobj_editor_files.specs.Opening.{Dirs, OpenFiles}

-- the entries of the open directories, by their paths
abbrev pub DirMap : Type 0
DirMap = FinMap (slice_cmp (slice_cmp nat_cmp)) (List EntryView)

-- the open directories and their bases, the store and the number of lookups in it, the kind of the ids, and the path of
-- the newest cursor
pub record State (S : Type 0) : Type 0 where
  pub dirs : DirMap
  pub bases : DirMap
  pub store : S
  pub lookups : ℕ
  pub object_hash : Kind
  pub prefix : Path

-- the open directories as a function of the path
abbrev pub open_dirs : {S : Type 0} → State S → Dirs
open_dirs state = λ path. map.get state.dirs path

-- the bases as a function of the path; the base of the root is ignored
abbrev pub open_bases : {S : Type 0} → State S → Dirs
open_bases state = λ path. map.get state.bases path

-- the root alone is open, with these entries
abbrev pub root_alone : List EntryView → DirMap
root_alone entries = map.insert map.empty [] entries

-- the state of a new editor of this root over this store, with ids of this kind
abbrev pub new_state : {S : Type 0} → List EntryView → S → Kind → State S
new_state root store object_hash =
    record {
      dirs = root_alone root;
      bases = root_alone [];
      store = store;
      lookups = 0;
      object_hash = object_hash;
      prefix = [];
    }

-- the files of an editor
abbrev pub EditorFiles : {S : Type 0} → Table → ℕ → State S → FileSet
EditorFiles T n state = OpenFiles T n (open_dirs state)

-- the files of an editor below a path, each with its path from there
abbrev pub FilesBelow : {S : Type 0} → Table → ℕ → Path → State S → FileSet
FilesBelow T n prefix state = λ path. EditorFiles T (n + length prefix) state (prefix ++ path)

-- the editor with another store
abbrev pub with_store : {S : Type 0} → State S → S → State S
with_store state store = record state { store = store }

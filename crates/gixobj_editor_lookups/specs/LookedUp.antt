-- Lookups by a path in a store, and the files of a tree.
use Rattle.std.specs.Prelude.{◌≡◌, ◌++◌, ◌∷◌, ℕ, All, IsFalse, List, [], None, Some, true}
use Rattle.gixobj_store.specs.Lookups.{IsPath, Name}
use Rattle.gixobj_store.specs.Stores.{Objects}
use Rattle.gixobj_editor_files.specs.Files.{Table, is_null, resolves_to}
use Rattle.gixobj_editor_files.specs.Tables.{IsNeverLookedUp}
use Rattle.gixobj_hash.specs.declared.hash.kind.Kind.{Kind}
use Rattle.gixobj_hash.specs.declared.kind.Kind.TheVariants.{Tree}
use Rattle.gixobj_tree_entries.specs.Entries.{EntryView}
use Rattle.gixobj_tree_entries.specs.Mode.{is_tree_mode}
use Rattle.gixobj_editor_lookups.specs.Openings.{NamesTree}

-- the entry is a directory's: it is of tree mode, and its id is looked up and names a well-formed tree
pub record IsDirectoryIn (objects : Objects) (e : EntryView) : Type 0 where
  pub tree : is_tree_mode e.mode ≡ true
  pub searched : ¬ IsNeverLookedUp e.id
  pub entries : List EntryView
  pub named : NamesTree objects e.id entries

-- the entry is a file's in the table: its id isn't null, and the table has no tree for its mode and id
abbrev pub IsFileIn : Table → EntryView → Type 0
IsFileIn T e = IsFalse (is_null e.id) × (resolves_to T e.mode e.id ≡ None)

-- a lookup by these names, in the tree of these bytes, leads through directories to this entry
abbrev pub IsLookedUp : Objects → Kind → List ℕ → List Name → EntryView → Type 0
IsLookedUp objects kind content names e =
    (before : List EntryView)
    × IsPath objects (Some (record { kind = Tree; object_hash = kind; bytes = content })) names (before ++ e ∷ [])
    × All (IsDirectoryIn objects) before

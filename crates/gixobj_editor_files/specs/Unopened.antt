-- The directories on a path that aren't open and would be looked up.
use Rattle.std.specs.Prelude.{ℕ, Bool, not, ◌&&◌, ◌++◌, true, false, List, [], ◌∷◌, Option, Some, None, if◌then◌else◌}
use Rattle.std.specs.Prelude.{length, map}
use Rattle.std.specs.List.{filter}
use Rattle.gixobj_tree_entries.specs.Entries.{EntryView}
use Rattle.gixobj_tree_entries.specs.Mode.{is_tree_mode}
use Rattle.gixobj_hash.specs.Hash.{id_bytes, id_kind, id_of}
use Rattle.gixobj_hash.specs.declared.hash.object_id.ObjectId.{ObjectId}
use Rattle.gixobj_hash.specs.declared.kind.Kind.TheVariants.{Tree}
use Rattle.gixobj_editor_files.specs.Editing.{same_name}
use Rattle.gixobj_editor_files.specs.Edits.{first_entry_of}
use Rattle.gixobj_editor_files.specs.Files.{Path, Trees, is_null}
use Rattle.gixobj_editor_files.specs.Opening.{Dirs, in_dir}

-- the id is that of the empty tree, of its own kind
abbrev pub is_empty_tree_id : ObjectId → Bool
is_empty_tree_id id = same_name (id_bytes id) (id_bytes (id_of (id_kind id) Tree []))

-- the id is looked up in a store: it is neither null nor the empty tree's
abbrev pub needs_lookup : ObjectId → Bool
needs_lookup id = not (is_null id) && not (is_empty_tree_id id)

-- the tree of an id in the table of a store
abbrev pub tree_of : Trees → ObjectId → Option (List EntryView)
tree_of trees id = if is_null id then None else (if is_empty_tree_id id then Some [] else trees id)

-- the list that an entry names, if the entry is of tree mode and the store's table has its id
abbrev pub list_of : Trees → Option EntryView → Option (List EntryView)
list_of trees None = None
list_of trees (Some e) = if is_tree_mode e.mode then tree_of trees e.id else None

-- the entry at a path below a list, through the table of the store
abbrev pub entry_in_store : Trees → Path → Option (List EntryView) → Option EntryView
entry_in_store trees [] entries = None
entry_in_store trees (name ∷ []) entries = first_entry_of name entries
entry_in_store trees (name ∷ next ∷ rest) entries =
    entry_in_store trees (next ∷ rest) (list_of trees (first_entry_of name entries))

-- the first entry if a directory isn't open, and the second if it is
abbrev pub by_openness : Option (List EntryView) → Option EntryView → Option EntryView → Option EntryView
by_openness None unopened opened = unopened
by_openness (Some entries) unopened opened = opened

-- the entry at a path, through open directories, and from there through the table of the store
abbrev pub looked_up_entry : Trees → Path → Dirs → Option EntryView
looked_up_entry trees [] dirs = None
looked_up_entry trees (name ∷ []) dirs = first_entry_of name (dirs [])
looked_up_entry trees (name ∷ next ∷ rest) dirs =
    by_openness (dirs (name ∷ [])) (entry_in_store trees (next ∷ rest) (list_of trees (first_entry_of name (dirs []))))
    (looked_up_entry trees (next ∷ rest) (in_dir name dirs))

-- the parent directories of a path, except the root
abbrev pub strict_beginnings : Path → List Path
strict_beginnings [] = []
strict_beginnings (name ∷ []) = []
strict_beginnings (name ∷ next ∷ rest) = (name ∷ []) ∷ map (λ path. name ∷ path) (strict_beginnings (next ∷ rest))

-- a path one name longer: its parent directories are those of the path, and the path itself
abbrev pub with_empty_name : Path → Path
with_empty_name path = path ++ [] ∷ []

-- the entry is of tree mode, and its id is looked up
abbrev pub needs_tree_lookup : Option EntryView → Bool
needs_tree_lookup None = false
needs_tree_lookup (Some e) = is_tree_mode e.mode && needs_lookup e.id

-- the directory isn't open
abbrev pub needs_opening : Option (List EntryView) → Bool
needs_opening None = true
needs_opening (Some entries) = false

-- the directory isn't open and would be looked up; its entry is of tree mode, and its id is neither null nor the empty
-- tree's
abbrev pub is_unopened : Trees → Dirs → Path → Bool
is_unopened trees dirs path = needs_opening (dirs path) && needs_tree_lookup (looked_up_entry trees path dirs)

-- the number of parent directories of a path that aren't open and would be looked up
abbrev pub unopened_count : Trees → Dirs → Path → ℕ
unopened_count trees dirs path = length (filter (is_unopened trees dirs) (strict_beginnings path))

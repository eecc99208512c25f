-- The open directories after an edit, and after an opening of the directories on a path.
use Rattle.std.specs.Prelude.{◌≡◌, ◌⊎◌, ◌+◌, ◌-◌, ◌^◌, ◌++◌, length, min, ℕ, zero, suc, true, false, List, [], ◌∷◌}
use Rattle.std.specs.Prelude.{Option, Some, None, if◌then◌else◌}
use Rattle.std.specs.Option.{option_map}
use Rattle.std.specs.List.{find}
use Rattle.gixobj_tree_entries.specs.Entries.{EntryView}
use Rattle.gixobj_tree.specs.WellFormed.{IsWellFormed}
use Rattle.gixobj_tree_entries.specs.Mode.{is_tree_mode, tree_type}
use Rattle.gixobj_hash.specs.declared.hash.object_id.ObjectId.{ObjectId}
use Rattle.gixobj_editor_files.specs.Editing.{has_tree, same_name, with_entry, without}
use Rattle.gixobj_editor_files.specs.Files.{Path, Trees}
use Rattle.gixobj_editor_files.specs.Opening.{Dirs, HasAt, in_dir}
use Rattle.gixobj_editor_files.specs.Tables.{IsNeverLookedUp}

-- the entries of a directory; a directory that isn't open is opened as empty
abbrev pub or_empty : Option (List EntryView) → List EntryView
or_empty None = []
or_empty (Some entries) = entries

-- an entry of this name and of tree mode is unchanged; otherwise one of mode 040000 with the null id is inserted, in
-- place of any entry of that name
abbrev pub with_directory : List ℕ → ObjectId → List EntryView → List EntryView
with_directory name null entries = if has_tree name entries then entries else with_entry
    (record { mode = tree_type; name = name; id = null }) entries

-- an upsert at a path; each parent directory of the path is open then, and the last of them has the entry; directories
-- that were open at or below the path are closed; a path without names changes nothing
abbrev pub upserted_dirs : Path → ℕ → ObjectId → ObjectId → Dirs → Dirs
upserted_dirs [] mode id null dirs path = dirs path
upserted_dirs (name ∷ []) mode id null dirs [] =
    Some (with_entry (record { mode = mode; name = name; id = id }) (or_empty (dirs [])))
upserted_dirs (name ∷ []) mode id null dirs (first ∷ path) = if same_name name first then None else dirs (first ∷ path)
upserted_dirs (name ∷ next ∷ rest) mode id null dirs [] = Some (with_directory name null (or_empty (dirs [])))
upserted_dirs (name ∷ next ∷ rest) mode id null dirs (first ∷ path) =
    if same_name name first then upserted_dirs (next ∷ rest) mode id null (in_dir name dirs) path else dirs
    (first ∷ path)

-- a directory that is ensured at a path: the directory and each parent directory of it are open then
abbrev pub ensured_dirs : Path → ObjectId → Dirs → Dirs
ensured_dirs [] null dirs [] = Some (or_empty (dirs []))
ensured_dirs [] null dirs (first ∷ path) = dirs (first ∷ path)
ensured_dirs (name ∷ rest) null dirs [] = Some (with_directory name null (or_empty (dirs [])))
ensured_dirs (name ∷ rest) null dirs (first ∷ path) = if same_name name first then ensured_dirs rest null
    (in_dir name dirs) path else dirs (first ∷ path)

-- a removal at a path; if the directory of the entry is open, the entry is removed, and directories that were open at
-- or below the path are closed
abbrev pub removed_dirs : Path → Dirs → Dirs
removed_dirs [] dirs path = dirs path
removed_dirs (name ∷ []) dirs [] = option_map (without name) (dirs [])
removed_dirs (name ∷ []) dirs (first ∷ path) = if same_name name first then None else dirs (first ∷ path)
removed_dirs (name ∷ next ∷ rest) dirs [] = dirs []
removed_dirs (name ∷ next ∷ rest) dirs (first ∷ path) = if same_name name first then removed_dirs (next ∷ rest)
    (in_dir name dirs) path else dirs (first ∷ path)

-- the first entry of a name
abbrev pub first_entry_of : List ℕ → Option (List EntryView) → Option EntryView
first_entry_of name None = None
first_entry_of name (Some entries) = find (λ e. same_name e.name name) entries

-- the entry at a path, through open directories alone
abbrev pub entry_at : Path → Dirs → Option EntryView
entry_at [] dirs = None
entry_at (name ∷ []) dirs = first_entry_of name (dirs [])
entry_at (name ∷ next ∷ rest) dirs = entry_at (next ∷ rest) (in_dir name dirs)

-- a directory that is open or isn't, with no open directory in it
abbrev pub only_at_root : Option (List EntryView) → Dirs
only_at_root here [] = here
only_at_root here (name ∷ path) = None

-- the only open directory has this list
abbrev pub only_open : List EntryView → Dirs
only_open entries = only_at_root (Some entries)

-- the first directories in the directory of a name, and the others elsewhere
abbrev pub with_dir : List ℕ → Dirs → Dirs → Dirs
with_dir name inner dirs [] = dirs []
with_dir name inner dirs (first ∷ path) = if same_name name first then inner path else dirs (first ∷ path)

-- the first directories in the directory at a path, and the others elsewhere
abbrev pub with_path : Path → Dirs → Dirs → Dirs
with_path [] inner dirs at = inner at
with_path (name ∷ rest) inner dirs [] = dirs []
with_path (name ∷ rest) inner dirs (first ∷ at) = if same_name name first then with_path rest inner
    (in_dir name dirs) at else dirs (first ∷ at)

-- the directory is open, and this entry is the only one of its name in it
abbrev pub IsEntryOf : List ℕ → Option (List EntryView) → EntryView → Type 0
IsEntryOf name here e = HasAt here e × (e.name ≡ name)
    × ((other : EntryView) → HasAt here other → other.name ≡ name → other ≡ e)

-- the list that an id is opened as, which is well-formed, and the ids that are looked up; an id that is never looked up
-- is opened as empty; any other is opened as the store's tree, by one lookup
abbrev pub Finds : Trees → ObjectId → List EntryView → List ObjectId → Type 0
Finds trees id entries looked_up =
    IsWellFormed entries × ((IsNeverLookedUp id × (entries ≡ []) × (looked_up ≡ []))
    ⊎ ((¬ IsNeverLookedUp id) × (trees id ≡ Some entries) × (looked_up ≡ id ∷ [])))

-- the maximum of a count, that of a u64
abbrev pub max_count : ℕ
max_count = 2 ^ 64 - 1

-- a count after `times` increments by one, which saturates at the maximum; none leaves it unchanged
abbrev pub raised : ℕ → ℕ → ℕ
raised n zero = n
raised n (suc times) = min (n + suc times) max_count

-- a count after these lookups
abbrev pub counted : ℕ → List ObjectId → ℕ
counted n looked_up = raised n (length looked_up)

-- an opening ends before an entry that isn't of tree mode
abbrev pub IsNoTree : EntryView → Type 0
IsNoTree e = is_tree_mode e.mode ≡ false

-- an opening may also end before an entry with the null id or the empty tree's id, which is never looked up
abbrev pub IsNotLookedUp : EntryView → Type 0
IsNotLookedUp e = IsNoTree e ⊎ IsNeverLookedUp e.id

-- opens each directory on a path, from the top, until one is missing or the opening ends before its entry; the
-- arguments are the open directories before and after, and the ids that were looked up
pub data Opens (StopsBefore : EntryView → Type 0) (trees : Trees) : Path → Dirs → Dirs → List ObjectId → Type 0 where
  arrived : (dirs : Dirs) → Opens StopsBefore trees [] dirs dirs []
  stops : (name : List ℕ) (rest : Path) (dirs : Dirs)
      → ((e : EntryView) → HasAt (dirs []) e → e.name ≡ name → StopsBefore e)
      → ((path : Path) → dirs (name ∷ path) ≡ None) → Opens StopsBefore trees (name ∷ rest) dirs dirs []
  down : (name : List ℕ) (rest : Path) (dirs inner : Dirs) (e : EntryView) (entries : List EntryView)
      (looked_up : List ObjectId) → HasAt (dirs []) e → e.name ≡ name → dirs (name ∷ []) ≡ Some entries
      → Opens StopsBefore trees rest (in_dir name dirs) inner looked_up
      → Opens StopsBefore trees (name ∷ rest) dirs (with_dir name inner dirs) looked_up
  found : (name : List ℕ) (rest : Path) (dirs inner : Dirs) (e : EntryView) (entries : List EntryView)
      (first looked_up : List ObjectId) → IsEntryOf name (dirs []) e → is_tree_mode e.mode ≡ true → (¬ StopsBefore e)
      → ((path : Path) → dirs (name ∷ path) ≡ None)
      → Finds trees e.id entries first → Opens StopsBefore trees rest (only_open entries) inner looked_up
      → Opens StopsBefore trees (name ∷ rest) dirs (with_dir name inner dirs) (first ++ looked_up)

-- The trees that a write emits, with their ids: those of changed directories alone.
use Rattle.std.specs.Prelude.{◌≡◌, ◌≢◌, ◌+◌, ℕ, List, [], ◌∷◌, ◌++◌, Some, None, if◌then◌else◌}
use Rattle.gixobj_tree_entries.specs.Entries.{EntryView, Pair}
use Rattle.gixobj_hash.specs.declared.hash.object_id.ObjectId.{ObjectId}
use Rattle.gixobj_editor_files.specs.Edits.{raised}
use Rattle.gixobj_editor_files.specs.Files.{is_null}
use Rattle.gixobj_editor_files.specs.Opening.{Dirs, in_dir}

-- the entry with this id; a written tree has no entry with a null id
abbrev pub entry_unless_null : EntryView → ObjectId → List EntryView
entry_unless_null e id = if is_null id then [] else (record { mode = e.mode; name = e.name; id = id }) ∷ []

mutual
  -- the emitted pairs of the directories open below this one, its written tree, and the number of unchanged directories
  -- below it
  pub data EmitsBelow : Dirs → Dirs → List Pair → List EntryView → ℕ → Type 0 where
    of_entries : (dirs bases : Dirs) (entries : List EntryView) (below : List Pair) (written_tree : List EntryView)
        (saved : ℕ)
        → dirs [] ≡ Some entries
        → EmitsEntries dirs bases entries below written_tree saved → EmitsBelow dirs bases below written_tree saved

  -- entry by entry; an entry that isn't open is kept, unless its id is null; an open directory is left out if its
  -- written tree is empty, and keeps its id if that tree is its base; any other gets the id of its pair, which comes
  -- after the pairs below it
  pub data EmitsEntries : Dirs → Dirs → List EntryView → List Pair → List EntryView → ℕ → Type 0 where
    end : (dirs bases : Dirs) → EmitsEntries dirs bases [] [] [] 0
    unopened : (dirs bases : Dirs) (e : EntryView) (entries : List EntryView) (below : List Pair)
        (written_tree : List EntryView)
        (saved : ℕ) → dirs (e.name ∷ []) ≡ None
        → EmitsEntries dirs bases entries below written_tree saved
        → EmitsEntries dirs bases (e ∷ entries) below (entry_unless_null e e.id ++ written_tree) saved
    left_out_if_empty : (dirs bases : Dirs) (e : EntryView) (entries : List EntryView) (inner below : List Pair)
        (written_tree : List EntryView) (inside saved : ℕ)
        → EmitsBelow (in_dir e.name dirs) (in_dir e.name bases) inner [] inside
        → EmitsEntries dirs bases entries below written_tree saved
        → EmitsEntries dirs bases (e ∷ entries) (inner ++ below) written_tree
        (inside + saved)
    unchanged : (dirs bases : Dirs) (e first : EntryView) (entries rest : List EntryView) (inner below : List Pair)
        (written_tree : List EntryView) (inside saved : ℕ)
        → EmitsBelow (in_dir e.name dirs) (in_dir e.name bases) inner (first ∷ rest) inside
        → bases (e.name ∷ []) ≡ Some (first ∷ rest)
        → EmitsEntries dirs bases entries below written_tree saved
        → EmitsEntries dirs bases (e ∷ entries) (inner ++ below)
        (entry_unless_null e e.id ++ written_tree) (inside + 1 + saved)
    written : (dirs bases : Dirs) (e first : EntryView) (entries rest : List EntryView) (inner below : List Pair)
        (written_tree : List EntryView) (inside saved : ℕ) (id : ObjectId)
        → EmitsBelow (in_dir e.name dirs) (in_dir e.name bases) inner (first ∷ rest) inside
        → bases (e.name ∷ []) ≢ Some (first ∷ rest)
        → EmitsEntries dirs bases entries below written_tree saved
        → EmitsEntries dirs bases (e ∷ entries) (inner ++ (id, first ∷ rest) ∷ below)
        (entry_unless_null e id ++ written_tree)
        (inside + saved)

-- the pairs below a directory, its written tree, and the number of unchanged directories, which saturates at the
-- maximum of a u64
abbrev pub Saves : Dirs → Dirs → List Pair → List EntryView → ℕ → Type 0
Saves dirs bases below written_tree saved = (count : ℕ) × EmitsBelow dirs bases below written_tree count
    × (saved ≡ raised 0 count)

-- a write of these directories emits these pairs: those below the directory, and then its own, even if its tree is
-- empty; the number of unchanged directories below it is `saved`
abbrev pub Emits : Dirs → Dirs → ℕ → List Pair → Type 0
Emits dirs bases saved pairs = (below : List Pair) × (id : ObjectId) × (written_tree : List EntryView)
    × Saves dirs bases below written_tree saved × (pairs ≡ below ++ (id, written_tree) ∷ [])

-- a write of these directories emits these pairs, for some number of unchanged directories
abbrev pub EmitsSome : Dirs → Dirs → List Pair → Type 0
EmitsSome dirs bases pairs = (saved : ℕ) × Emits dirs bases saved pairs

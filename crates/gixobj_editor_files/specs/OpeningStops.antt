-- Where the opening of the directories on a path stops with an error.
use Rattle.std.specs.Prelude.{◌≡◌, ◌⊎◌, ◌++◌, ℕ, true, List, [], ◌∷◌, Option, Some, None}
use Rattle.gixobj_tree_entries.specs.Entries.{EntryView}
use Rattle.gixobj_tree_entries.specs.Mode.{is_tree_mode}
use Rattle.gixobj_hash.specs.declared.hash.object_id.ObjectId.{ObjectId}
use Rattle.gixobj_editor_files.specs.Edits.{Finds, IsEntryOf, Opens, counted, only_open, with_dir}
use Rattle.gixobj_editor_files.specs.Files.{Path, Trees}
use Rattle.gixobj_editor_files.specs.Opening.{Dirs, HasAt, in_dir}
use Rattle.gixobj_editor_files.specs.Tables.{IsNeverLookedUp}
use Rattle.gixobj_editor_files.specs.Unopened.{is_unopened, looked_up_entry}

-- an opening of the directories on a path that stops; the arguments are the open directories before and after, the ids
-- that were looked up, and the last of these if its tree wasn't opened. Without such an id it stops at a directory that
-- is never looked up
pub data StopsOpening (StopsBefore : EntryView → Type 0) (trees : Trees) : Path → Dirs → Dirs → List ObjectId
    → Option ObjectId → Type 0 where
  before_lookup : (name : List ℕ) (rest : Path) (dirs : Dirs) (e : EntryView) → IsEntryOf name (dirs []) e
      → is_tree_mode e.mode ≡ true → (¬ StopsBefore e) → ((path : Path) → dirs (name ∷ path) ≡ None)
      → IsNeverLookedUp e.id
      → StopsOpening StopsBefore trees (name ∷ rest) dirs dirs [] None
  at_lookup : (name : List ℕ) (rest : Path) (dirs : Dirs) (e : EntryView) → IsEntryOf name (dirs []) e
      → is_tree_mode e.mode ≡ true → (¬ StopsBefore e) → ((path : Path) → dirs (name ∷ path) ≡ None)
      → (¬ IsNeverLookedUp e.id)
      → StopsOpening StopsBefore trees (name ∷ rest) dirs dirs (e.id ∷ []) (Some e.id)
  down : (name : List ℕ) (rest : Path) (dirs inner : Dirs) (e : EntryView) (entries : List EntryView)
      (looked_up : List ObjectId) (failed_lookup : Option ObjectId) → HasAt (dirs []) e → e.name ≡ name
      → dirs (name ∷ []) ≡ Some entries
      → StopsOpening StopsBefore trees rest (in_dir name dirs) inner looked_up failed_lookup
      → StopsOpening StopsBefore trees (name ∷ rest) dirs (with_dir name inner dirs) looked_up failed_lookup
  found : (name : List ℕ) (rest : Path) (dirs inner : Dirs) (e : EntryView) (entries : List EntryView)
      (first looked_up : List ObjectId) (failed_lookup : Option ObjectId) → IsEntryOf name (dirs []) e
      → is_tree_mode e.mode ≡ true → (¬ StopsBefore e)
      → ((path : Path) → dirs (name ∷ path) ≡ None) → Finds trees e.id entries first
      → StopsOpening StopsBefore trees rest (only_open entries) inner looked_up failed_lookup
      → StopsOpening StopsBefore trees (name ∷ rest) dirs (with_dir name inner dirs) (first ++ looked_up) failed_lookup

-- the first path is a parent directory of the second, below the root
abbrev pub IsAbove : Path → Path → Type 0
IsAbove parent path = (first : List ℕ) × (more : Path) × (next : List ℕ) × (rest : Path) × (parent ≡ first ∷ more)
    × (path ≡ parent ++ next ∷ rest)

-- a parent directory of the path that isn't open and would be looked up, by its id
pub record IsUnopenedAbove (trees : Trees) (dirs : Dirs) (path : Path) (id : ObjectId) : Type 0 where
  pub parent : Path
  pub entry : EntryView
  pub above : IsAbove parent path
  pub unopened : is_unopened trees dirs parent ≡ true
  pub yielded : looked_up_entry trees parent dirs ≡ Some entry
  pub named : entry.id ≡ id

-- the next directory on a path, after this prefix, isn't open and would be looked up by this id
abbrev pub IsNextUnopened : Trees → Dirs → Path → Path → ObjectId → Type 0
IsNextUnopened trees dirs prefix more id =
    (name : List ℕ) × (rest : Path) × (e : EntryView) × (more ≡ name ∷ rest)
    × (is_unopened trees dirs (prefix ++ name ∷ []) ≡ true)
    × (looked_up_entry trees (prefix ++ name ∷ []) dirs ≡ Some e) × (e.id ≡ id)

-- the next directory on a path, after this prefix, is above the path, isn't open, and would be looked up by this id
abbrev pub IsNextUnopenedAbove : Trees → Dirs → Path → Path → ObjectId → Type 0
IsNextUnopenedAbove trees dirs prefix more id =
    (name next : List ℕ) × (rest : Path) × (e : EntryView) × (more ≡ name ∷ next ∷ rest)
    × (is_unopened trees dirs (prefix ++ name ∷ []) ≡ true)
    × (looked_up_entry trees (prefix ++ name ∷ []) dirs ≡ Some e) × (e.id ≡ id)

-- each lookup of an edit that stops is counted: those of the directories that were opened, on a prefix of the path; and
-- that of the next directory above the path, if this isn't open and would be looked up
pub record CountsEachLookup (StopsBefore : EntryView → Type 0) (trees : Trees) (path : Path) (old new : Dirs)
    (before after : ℕ) : Type 0 where
  pub reached : Path
  pub more : Path
  pub on_the_way : path ≡ reached ++ more
  pub looked_up : List ObjectId
  pub opens : Opens StopsBefore trees reached old new looked_up
  pub last_lookup : List ObjectId
  pub lookups : after ≡ counted before (looked_up ++ last_lookup)
  pub next : (it : ObjectId) → IsNextUnopenedAbove trees old reached more it → last_lookup ≡ it ∷ []

-- the opening of a path reaches this directory: the root, an open directory, or one that the opening enters and whose
-- tree is known
abbrev pub ReachesDirectory : (EntryView → Type 0) → Trees → Dirs → Path → Type 0
ReachesDirectory StopsBefore trees dirs parent =
    (parent ≡ []) ⊎ ((entries : List EntryView) × (dirs parent ≡ Some entries))
    ⊎ ((e : EntryView) × (looked_up_entry trees parent dirs ≡ Some e) × (is_tree_mode e.mode ≡ true) × (¬ StopsBefore e)
    × (IsNeverLookedUp e.id ⊎ ((entries : List EntryView) × (trees e.id ≡ Some entries))))

-- a parent directory of the path isn't open, and the opening of the path enters it
pub record IsEnteredOnPath (StopsBefore : EntryView → Type 0) (trees : Trees) (dirs : Dirs)
    (path : Path) : Type 0 where
  pub parent : Path
  pub entry : EntryView
  pub above : IsAbove parent path
  pub not_open : dirs parent ≡ None
  pub yielded : looked_up_entry trees parent dirs ≡ Some entry
  pub tree : is_tree_mode entry.mode ≡ true
  pub free : ¬ StopsBefore entry

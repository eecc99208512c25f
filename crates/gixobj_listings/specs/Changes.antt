-- The paths at which two sets of files differ (git-diff-tree, `-r`), and pairs of entries of two trees.
use Rattle.std.specs.Prelude.{◌≡◌, ◌⊎◌, ◌↔◌, ℕ, List, [], ◌∷◌, Option, Some, None, ⊤, if◌then◌else◌}
use Rattle.std.specs.Cmp.Lexicographic.{slice_cmp}
use Rattle.std.specs.List.{AllByRecursion}
use Rattle.std.specs.Ordering.{nat_cmp}
use Rattle.std.specs.declared.cmp.Ordering.TheVariants.{Less}
use Rattle.gix_object.specs.Entries.{EntryView}
use Rattle.gix_object.specs.Files.{Below, FileSet, Files, Path, Table, is_null}
use Rattle.gix_object.specs.KeyOrder.{entry_key}
use Rattle.gix_object.specs.Mode.{is_tree_mode}
use Rattle.gix_object.specs.WellFormed.{EachLater, IsEntryName}
use Rattle.gix_object.specs.hash.hash.object_id.ObjectId.{ObjectId}
use Rattle.gixobj_listings.specs.FileLists.{FileView, ListedBefore}

-- the bits of the mode of a file, and its id
abbrev pub VersionView : Type 0
VersionView = ℕ × ObjectId

-- a change as contracts see it: its path, and the file there before and after, or none
pub record ChangeView : Type 0 where
  pub path : Path
  pub before : Option VersionView
  pub after : Option VersionView

-- the change with a name before its path
abbrev pub with_name_first : List ℕ → ChangeView → ChangeView
with_name_first name change = record { path = name ∷ change.path; before = change.before; after = change.after }

-- the file as one that was removed
abbrev pub removal : FileView → ChangeView
removal file = record { path = file.path; before = Some (file.mode, file.id); after = None }

-- the file as one that was added
abbrev pub addition : FileView → ChangeView
addition file = record { path = file.path; before = None; after = Some (file.mode, file.id) }

-- ---- sets of files

-- the set has no file at the path
abbrev pub HasNoFile : FileSet → Path → Type 0
HasNoFile files path = (mode : ℕ) (id : ObjectId) → ¬ files path mode id

-- the path has this file in the first set, and that one in the second. Removed: it has none in the second. Added: it
-- has none in the first. Changed: neither file is in the other set
abbrev pub DiffersAt : FileSet → FileSet → Path → Option VersionView → Option VersionView → Type 0
DiffersAt A B path None None = ⊥
DiffersAt A B path (Some old) None = A path old.0 old.1 × HasNoFile B path
DiffersAt A B path None (Some new) = HasNoFile A path × B path new.0 new.1
DiffersAt A B path (Some old) (Some new) = A path old.0 old.1 × B path new.0 new.1 × (¬ B path old.0 old.1)
    × (¬ A path new.0 new.1)

-- the change is one from the first set to the second
abbrev pub IsChange : FileSet → FileSet → ChangeView → Type 0
IsChange A B change = DiffersAt A B change.path change.before change.after

-- the list has the change
abbrev pub ListsChange : List ChangeView → ChangeView → Type 0
ListsChange [] change = ⊥
ListsChange (first ∷ changes) change = (first ≡ change) ⊎ ListsChange changes change

-- the changes are exactly those from the first set to the second
abbrev pub AreChanges : FileSet → FileSet → List ChangeView → Type 0
AreChanges A B changes = (change : ChangeView) → ListsChange changes change ↔ IsChange A B change

-- the changes are in the order of their paths
abbrev pub AreChangesInOrder : List ChangeView → Type 0
AreChangesInOrder changes = EachLater (λ x y. ListedBefore x.path y.path) changes

-- ---- pairs of entries

-- the entries of one key in two trees, or the one that only one of them has
abbrev pub EntryPairView : Type 0
EntryPairView = Option EntryView × Option EntryView

-- the entries of a pair
abbrev pub sides : EntryPairView → List EntryView
sides (None, None) = []
sides (Some e, None) = e ∷ []
sides (None, Some e) = e ∷ []
sides (Some e, Some other) = e ∷ other ∷ []

-- the entry comes before each entry of an ordered list, by its key
abbrev pub IsAheadOf : EntryView → List EntryView → Type 0
IsAheadOf e [] = ⊤
IsAheadOf e (first ∷ rest) = slice_cmp nat_cmp (entry_key e) (entry_key first) ≡ Less

-- the pairs of two lists of entries, in order: entries of one key are one pair, and each other is alone
pub data Merges : List EntryView → List EntryView → List EntryPairView → Type 0 where
  ends : Merges [] [] []
  before_alone : (e : EntryView) (left right : List EntryView) (pairs : List EntryPairView) → IsAheadOf e right
      → Merges left right pairs → Merges (e ∷ left) right ((Some e, None) ∷ pairs)
  after_alone : (e : EntryView) (left right : List EntryView) (pairs : List EntryPairView) → IsAheadOf e left
      → Merges left right pairs → Merges left (e ∷ right) ((None, Some e) ∷ pairs)
  both : (before after : EntryView) (left right : List EntryView) (pairs : List EntryPairView)
      → entry_key before ≡ entry_key after → Merges left right pairs
      → Merges (before ∷ left) (after ∷ right) ((Some before, Some after) ∷ pairs)

-- each name is valid
abbrev pub HaveNames : List EntryView → Type 0
HaveNames entries = AllByRecursion (λ e. IsEntryName e.name) entries

-- the entries of a pair have this name; if there are two, both are directories or neither is
abbrev pub HasName : List ℕ → EntryPairView → Type 0
HasName name (None, None) = ⊥
HasName name (Some e, None) = e.name ≡ name
HasName name (None, Some e) = e.name ≡ name
HasName name (Some e, Some other) = (e.name ≡ name) × (other.name ≡ name)
    × (is_tree_mode e.mode ≡ is_tree_mode other.mode)

-- an entry without a null id, or none
abbrev pub side_unless_null : Option EntryView → Option EntryView
side_unless_null None = None
side_unless_null (Some e) = if is_null e.id then None else Some e

-- ---- files of pairs

-- the files at and below an entry, by their paths from there; none without an entry
abbrev pub FilesOfSide : Table → ℕ → Option EntryView → FileSet
FilesOfSide T n None path mode id = ⊥
FilesOfSide T n (Some e) path mode id = Below T (Files T n) e.mode e.id path mode id

-- the change is one between the files of the entries of a pair
abbrev pub IsChangeOfPair : Table → ℕ → EntryPairView → ChangeView → Type 0
IsChangeOfPair T n pair change = (name : List ℕ) × (path : Path) × HasName name pair × (change.path ≡ name ∷ path)
    × DiffersAt (FilesOfSide T n pair.0) (FilesOfSide T n pair.1) path change.before change.after

-- the change is one of these pairs
abbrev pub IsChangeOfPairs : Table → ℕ → List EntryPairView → ChangeView → Type 0
IsChangeOfPairs T n [] change = ⊥
IsChangeOfPairs T n (pair ∷ pairs) change = IsChangeOfPair T n pair change ⊎ IsChangeOfPairs T n pairs change

-- the key of each entry of a pair is less than that of each of the entries
abbrev pub IsPairBefore : List EntryView → EntryPairView → Type 0
IsPairBefore entries pair = AllByRecursion (λ later.
    AllByRecursion (λ e. slice_cmp nat_cmp (entry_key e) (entry_key later) ≡ Less) (sides pair)) entries

-- Changes between the files of two stored trees, and the errors of a comparison (git-diff-tree, `-r`).
use Rattle.std.specs.Prelude.{◌≡◌, ◌≢◌, ◌⊎◌, ◌≤◌, ◌+◌, ℕ, Bool, List, [], ◌∷◌, Option, Some, None, ⊤}
use Rattle.std.specs.List.{AllByRecursion}
use Rattle.std.specs.Option.{option_copied}
use Rattle.bstr.specs.Owned.{bstring_bytes}
use Rattle.gix_object.specs.Calls.{names_of}
use Rattle.gix_object.specs.Entries.{EntryView}
use Rattle.gix_object.specs.Files.{ContainsEntry, NamedFiles, Path, Table}
use Rattle.gix_object.specs.KeyOrder.{entry_key}
use Rattle.gix_object.specs.Mode.{is_tree_mode}
use Rattle.gix_object.specs.Openings.{OfTrees}
use Rattle.gix_object.specs.Stores.{Objects}
use Rattle.gix_object.specs.Tables.{AgreesWithStore}
use Rattle.gix_object.specs.hash.hash.object_id.ObjectId.{ObjectId}
use Rattle.gixobj_listings.specs.Changes.{AreChanges, ChangeView, EntryPairView, FilesOfSide, HasName, IsAheadOf, sides}
use Rattle.gixobj_listings.specs.FileLists.{has_names}
use Rattle.gixobj_listings.specs.Listings.{AreReadBelow, IsDirectory, IsUnread, IsUnreadError, LeadsToDirectory}
use Rattle.gixobj_listings.specs.Roots.{IsRoot, IsRootError}
use Rattle.gixobj_listings.specs.declared.differences.pairs.EntryPair.{EntryPair}
use Rattle.gixobj_listings.specs.declared.listing.ListError.{ListError}
use Rattle.gixobj_listings.specs.declared.listing.ListError.TheVariants as list
use Rattle.gixobj_listings.specs.declared.listing.UnreadError.TheVariants as unread
use Rattle.gixobj_listings.specs.declared.roots.RootError.{RootError}

-- the changes are exactly those between the files of two trees, at each depth from this one on; in each table that
-- agrees with the store
abbrev pub HasChanges : Objects → ℕ → ObjectId → ObjectId → List ChangeView → Type 0
HasChanges objects depth from to changes = OfTrees objects (λ trees. (T : Table) (n : ℕ) → AgreesWithStore T trees
    → depth ≤ n → AreChanges (NamedFiles T n from) (NamedFiles T n to) changes)

-- the changes are exactly those between the files at and below two entries, by their paths from there; likewise
abbrev pub HasChangesAt : Objects → ℕ → EntryPairView → List ChangeView → Type 0
HasChangesAt objects depth pair changes = OfTrees objects (λ trees. (T : Table) (n : ℕ) → AgreesWithStore T trees
    → depth ≤ n → AreChanges (FilesOfSide T n pair.0) (FilesOfSide T n pair.1) changes)

-- ---- pairs

-- the entries of a pair
abbrev pub pair_view : EntryPair → EntryPairView
pair_view pair = (option_copied pair.before, option_copied pair.after)

-- the pair has these entries, and these entries remain
pub record IsPairOf (before after : Option EntryView) (left right : List EntryView) (pair : EntryPair) : Type 0 where
  pub entries : pair_view pair ≡ (before, after)
  pub name : HasName (bstring_bytes pair.name.now) (before, after)
  pub remaining_left : pair.left.now ≡ left
  pub remaining_right : pair.right.now ≡ right

-- the pair is the first entry of one list alone, or the first entries of both, which have one key; the others remain
abbrev pub IsFirstPair : List EntryView → List EntryView → EntryPair → Type 0
IsFirstPair left right pair =
    ((e : EntryView) × (pair_view pair ≡ (Some e, None)) × (left ≡ e ∷ pair.left.now) × (right ≡ pair.right.now)
    × IsAheadOf e right)
    ⊎ (((e : EntryView) × (pair_view pair ≡ (None, Some e)) × (left ≡ pair.left.now) × (right ≡ e ∷ pair.right.now)
    × IsAheadOf e left)
    ⊎ ((e : EntryView) × (other : EntryView) × (pair_view pair ≡ (Some e, Some other)) × (left ≡ e ∷ pair.left.now)
    × (right ≡ other ∷ pair.right.now) × (entry_key e ≡ entry_key other)))

-- the pair, which has this name, is the first of two lists of entries
pub record IsNextPair (left right : List EntryView) (pair : EntryPair) : Type 0 where
  pub name : HasName (bstring_bytes pair.name.now) (pair_view pair)
  pub first : IsFirstPair left right pair

-- the path of the change has names if and only if the entries of the pair are directories
abbrev pub IsAtPair : EntryPairView → ChangeView → Type 0
IsAtPair pair change = AllByRecursion (λ e. has_names change.path ≡ is_tree_mode e.mode) (sides pair)

-- if the pair is a directory alone, the store has each directory of its tree
abbrev pub IsReadIfAlone : Objects → EntryPairView → Type 0
IsReadIfAlone objects (None, None) = ⊤
IsReadIfAlone objects (Some e, None) = AreReadBelow objects e
IsReadIfAlone objects (None, Some e) = AreReadBelow objects e
IsReadIfAlone objects (Some e, Some other) = ⊤

-- ---- errors

-- the directory of a name among these entries; or none, if no entry of the name is a directory
abbrev pub IsDirectoryOfName : List EntryView → List ℕ → Option EntryView → Type 0
IsDirectoryOfName entries name None = (e : EntryView) → ContainsEntry entries e → e.name ≡ name → ¬ IsDirectory e
IsDirectoryOfName entries name (Some e) = ContainsEntry entries e × (e.name ≡ name) × IsDirectory e

-- the path leads from a directory that only one tree has to this directory; or from two that differ in mode or id, as
-- `Unequal` says
abbrev pub LeadsFromSides : Objects → (ObjectId → ObjectId → Type 0) → Option EntryView → Option EntryView → Path
    → ObjectId → Type 0
LeadsFromSides objects Unequal None None path id = ⊥
LeadsFromSides objects Unequal (Some e) None path id = LeadsToDirectory objects e.id path id
LeadsFromSides objects Unequal None (Some e) path id = LeadsToDirectory objects e.id path id
LeadsFromSides objects Unequal (Some e) (Some other) path id = (e ≢ other) × Unequal e.id other.id

-- the same, from the directories of a name among the entries of two trees
abbrev pub LeadsFromEntries : Objects → (ObjectId → ObjectId → Type 0) → List EntryView → List EntryView → List ℕ
    → Path → ObjectId → Type 0
LeadsFromEntries objects Unequal lefts rights name path id = (before after : Option EntryView)
    × IsDirectoryOfName lefts name before × IsDirectoryOfName rights name after
    × LeadsFromSides objects Unequal before after path id

-- the path leads from one of two trees to this directory; on the way, and at its end, the trees have no equal
-- directories at one path
abbrev pub LeadsToUnequal : Objects → ObjectId → ObjectId → Path → ObjectId → Type 0
LeadsToUnequal objects from to [] id = (from ≡ id) ⊎ (to ≡ id)
LeadsToUnequal objects from to (name ∷ path) id = (lefts rights : List EntryView) × IsRoot objects from lefts
    × IsRoot objects to rights
    × LeadsFromEntries objects (λ x y. LeadsToUnequal objects x y path id) lefts rights name path id

-- the error of a comparison: a directory of one of the trees isn't read, without an equal one in the other tree at its
-- path or on the way; or out of memory
abbrev pub IsChangesError : Objects → (ObjectId → Bool) → ℕ → ObjectId → ObjectId → ListError → Type 0
IsChangesError objects may_fail depth from to (list.Directory path id cause) =
    LeadsToUnequal objects from to (names_of path.items) id
    × IsUnreadError objects may_fail depth (names_of path.items) id cause
IsChangesError objects may_fail depth from to list.OutOfMemory = ⊤

-- the entry of a side, or none
abbrev pub side_list : Option EntryView → List EntryView
side_list None = []
side_list (Some e) = e ∷ []

-- the path, which begins with a name, leads from an entry of the pair to this directory, likewise
abbrev pub LeadsFromPair : Objects → EntryPairView → Path → ObjectId → Type 0
LeadsFromPair objects pair [] id = ⊥
LeadsFromPair objects pair (name ∷ path) id =
    LeadsFromEntries objects (λ x y. LeadsToUnequal objects x y path id) (side_list pair.0) (side_list pair.1) name path
    id

-- the error of a comparison of two entries: a directory at or below one of them isn't read, likewise; or out of memory
abbrev pub IsChangesErrorAt : Objects → (ObjectId → Bool) → ℕ → EntryPairView → ListError → Type 0
IsChangesErrorAt objects may_fail depth pair (list.Directory path id cause) =
    LeadsFromPair objects pair (names_of path.items) id
    × IsUnreadError objects may_fail (depth + 1) (names_of path.items) id cause
IsChangesErrorAt objects may_fail depth pair list.OutOfMemory = ⊤

-- the error of a tree that isn't read
abbrev pub IsTreeInError : Objects → (ObjectId → Bool) → ObjectId → ListError → Type 0
IsTreeInError objects may_fail id error = (cause : RootError) × IsRootError objects may_fail id cause
    × IsUnread id (unread.Tree cause) error

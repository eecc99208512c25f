-- Listings of the files of a stored tree, to a depth that the caller chooses (git-ls-tree, `-r`).
use Rattle.std.specs.Prelude.{◌≡◌, ◌≢◌, ◌⊎◌, ◌≤◌, ℕ, Bool, true, List, [], ◌∷◌, IsFalse, length, ⊤}
use Rattle.gix_object.specs.Calls.{names_of}
use Rattle.gix_object.specs.Entries.{EntryView}
use Rattle.gix_object.specs.Files.{Below, ContainsEntry, Files, NamedFiles, Path, SameFiles, Table, is_null}
use Rattle.gix_object.specs.Mode.{is_tree_mode}
use Rattle.gix_object.specs.Openings.{OfTrees}
use Rattle.gix_object.specs.Stores.{Objects}
use Rattle.gix_object.specs.Tables.{AgreesWithStore}
use Rattle.gix_object.specs.hash.hash.object_id.ObjectId.{ObjectId}
use Rattle.gixobj_listings.specs.FileLists.{FileView, Lists, OpenedBefore}
use Rattle.gixobj_listings.specs.Roots.{IsRoot, IsRootError}
use Rattle.gixobj_listings.specs.declared.listing.ListError.{ListError}
use Rattle.gixobj_listings.specs.declared.listing.ListError.TheVariants as list
use Rattle.gixobj_listings.specs.declared.listing.UnreadError.{UnreadError}
use Rattle.gixobj_listings.specs.declared.listing.UnreadError.TheVariants as unread

-- the files are exactly those of the tree with this id, at each depth from this one on; in each table that agrees with
-- the store
abbrev pub HasFilesOf : Objects → ℕ → ObjectId → List FileView → Type 0
HasFilesOf objects depth root files = OfTrees objects (λ trees. (T : Table) (n : ℕ) → AgreesWithStore T trees
    → depth ≤ n → SameFiles (Lists files) (NamedFiles T n root))

-- the files are exactly those of a tree of these entries; likewise
abbrev pub HasFilesOfEntries : Objects → ℕ → List EntryView → List FileView → Type 0
HasFilesOfEntries objects depth entries files = OfTrees objects (λ trees. (T : Table) (n : ℕ) → AgreesWithStore T trees
    → depth ≤ n → SameFiles (Lists files) (Files T n entries))

-- the files are exactly those at and below the entry, by their paths from there; likewise
abbrev pub HasFilesAt : Objects → ℕ → EntryView → List FileView → Type 0
HasFilesAt objects depth e files = OfTrees objects (λ trees. (T : Table) (n : ℕ) → AgreesWithStore T trees
    → depth ≤ n → SameFiles (Lists files) (Below T (Files T n) e.mode e.id))

-- ---- directories

-- the entry is a directory, and its id isn't null
abbrev pub IsDirectory : EntryView → Type 0
IsDirectory e = (is_tree_mode e.mode ≡ true) × IsFalse (is_null e.id)

-- the store has a well-formed tree with this id; the empty tree is in each store
abbrev pub IsRead : Objects → ObjectId → Type 0
IsRead objects id = (entries : List EntryView) × IsRoot objects id entries

-- the path leads from the tree of the first id to the directory of the second, through trees of the store
abbrev pub LeadsToDirectory : Objects → ObjectId → Path → ObjectId → Type 0
LeadsToDirectory objects root [] id = root ≡ id
LeadsToDirectory objects root (name ∷ path) id = (entries : List EntryView) × IsRoot objects root entries
    × ((e : EntryView) × ContainsEntry entries e × (e.name ≡ name) × IsDirectory e
    × LeadsToDirectory objects e.id path id)

-- the store has each directory of the tree with this id, at every depth
abbrev pub AreAllRead : Objects → ObjectId → Type 0
AreAllRead objects root = (path : Path) (id : ObjectId) → LeadsToDirectory objects root path id → IsRead objects id

-- the entry isn't a directory, or the store has each directory of its tree
abbrev pub AreReadBelow : Objects → EntryView → Type 0
AreReadBelow objects e = IsDirectory e → AreAllRead objects e.id

-- the path from an entry has at most this many names: none if the entry isn't a directory, and some if it is
abbrev pub IsAtEntry : ℕ → EntryView → FileView → Type 0
IsAtEntry depth e file = (length file.path ≤ depth)
    × ((is_tree_mode e.mode ≡ true → file.path ≢ []) × (IsFalse (is_tree_mode e.mode) → file.path ≡ []))

-- ---- errors

-- the directory at this path is the first that isn't read: the store has each that is opened before it
pub record IsFirstUnread (objects : Objects) (root : ObjectId) (path : Path) (id : ObjectId) : Type 0 where
  pub leads : LeadsToDirectory objects root path id
  pub earlier : (before : Path) (other : ObjectId) → LeadsToDirectory objects root before other
      → OpenedBefore before path → IsRead objects other

-- why the directory at this path isn't read: its tree isn't found or is invalid; or its path has this many names
abbrev pub IsUnreadError : Objects → (ObjectId → Bool) → ℕ → Path → ObjectId → UnreadError → Type 0
IsUnreadError objects may_fail depth path id (unread.Tree cause) = IsRootError objects may_fail id cause
IsUnreadError objects may_fail depth path id unread.TooDeep = length path ≡ depth

-- the error of a listing: of the first directory that isn't read; or out of memory
abbrev pub IsListError : Objects → (ObjectId → Bool) → ℕ → ObjectId → ListError → Type 0
IsListError objects may_fail depth root (list.Directory path id cause) =
    IsFirstUnread objects root (names_of path.items) id
    × IsUnreadError objects may_fail depth (names_of path.items) id cause
IsListError objects may_fail depth root list.OutOfMemory = ⊤

-- the error is that of this directory, for this cause, with the path of the root
abbrev pub IsUnread : ObjectId → UnreadError → ListError → Type 0
IsUnread id cause (list.Directory path id' cause') = (path.items ≡ []) × (id' ≡ id) × (cause' ≡ cause)
IsUnread id cause list.OutOfMemory = ⊥

-- the second error is the first with a name before its path; or out of memory
abbrev pub IsErrorWithin : List ℕ → ListError → ListError → Type 0
IsErrorWithin name (list.Directory path id cause) (list.Directory path' id' cause') =
    (names_of path'.items ≡ name ∷ names_of path.items) × (id' ≡ id) × (cause' ≡ cause)
IsErrorWithin name list.OutOfMemory (list.Directory path' id' cause') = ⊥
IsErrorWithin name error list.OutOfMemory = ⊤

-- the error of the files at an entry: that of its directory, with the entry's name before the path; or out of memory
abbrev pub IsListErrorAt : Objects → (ObjectId → Bool) → ℕ → EntryView → ListError → Type 0
IsListErrorAt objects may_fail depth e error = (error ≡ list.OutOfMemory)
    ⊎ (IsDirectory e × ((inner : ListError) × IsListError objects may_fail depth e.id inner
    × IsErrorWithin e.name inner error))

-- Roots: the trees that a store has, by their ids.
use Rattle.std.specs.Prelude.{◌≡◌, ◌≢◌, ℕ, Bool, IsFalse, List, []}
use Rattle.gix_object.specs.Entries.{EntryView}
use Rattle.gix_object.specs.WellFormed.{IsWellFormed}
use Rattle.gix_object.specs.Stores.{Objects}
use Rattle.gix_object.specs.Files.{Files, NamedFiles, SameFiles, Table, Trees, is_null}
use Rattle.gix_object.specs.Openings.{AreTreesOf, NamesIllFormedTree, NamesTree}
use Rattle.gix_object.specs.Tables.{AgreesWithStore}
use Rattle.gix_object.specs.Existing.{IsEmptyId, NamesSuch, IsFindObjectError}
use Rattle.gix_object.specs.TreeDecoding.{DecodesToTree}
use Rattle.gix_object.specs.hash.hash.object_id.ObjectId.{ObjectId}
use Rattle.gix_object.specs.hash.kind.Kind.TheVariants.{Tree}
use Rattle.gixobj_listings.specs.declared.roots.RootError.{RootError}
use Rattle.gixobj_listings.specs.declared.roots.RootError.TheVariants as root

-- the root with this id: no entries for the empty tree's id, else the well-formed tree that the store names
pub record IsRoot (objects : Objects) (id : ObjectId) (entries : List EntryView) : Type 0 where
  pub well_formed : IsWellFormed entries
  pub empty : IsEmptyId Tree id → entries ≡ []
  pub stored : (¬ IsEmptyId Tree id) → NamesTree objects id entries

-- the files of a root are those that a table has by its id, if the table agrees with the store and the id isn't null
abbrev pub StoredRootHasFiles : Type 0
StoredRootHasFiles = (objects : Objects) (trees : Trees) → AreTreesOf objects trees → (T : Table)
    → AgreesWithStore T trees → (id : ObjectId) (entries : List EntryView) → IsFalse (is_null id)
    → IsRoot objects id entries → (n : ℕ) → SameFiles (Files T n entries) (NamedFiles T n id)

-- the id names a tree that has entries
abbrev pub NamesFilled : Objects → ObjectId → Type 0
NamesFilled objects id = (entries : List EntryView)
    × NamesSuch objects id Tree (λ hash bytes. DecodesToTree hash bytes entries) × (entries ≢ [])

-- the errors of a stored root: the lookup fails, or the tree isn't well-formed, or allocation of its entries fails
abbrev pub IsStoredRootError : Objects → (ObjectId → Bool) → ObjectId → RootError → Type 0
IsStoredRootError objects may_fail id (root.Find cause) = IsFindObjectError objects may_fail Tree id cause
IsStoredRootError objects may_fail id root.Malformed = NamesIllFormedTree objects id
IsStoredRootError objects may_fail id root.OutOfMemory = NamesFilled objects id

-- the errors of a root; there are none for the empty tree's id
abbrev pub IsRootError : Objects → (ObjectId → Bool) → ObjectId → RootError → Type 0
IsRootError objects may_fail id error = (¬ IsEmptyId Tree id) × IsStoredRootError objects may_fail id error

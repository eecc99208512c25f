-- Directories that are looked up in a store, and the errors of an opening.
use Rattle.std.specs.Prelude.{◌≡◌, Bool, List, Option, Some, None, ⊤}
use Rattle.gixobj_store.specs.Stores.{Objects}
use Rattle.gixobj_store.specs.declared.find.Error.TheVariants as find
use Rattle.gixobj_editor_files.specs.Edits.{IsNoTree, IsNotLookedUp}
use Rattle.gixobj_editor_files.specs.Files.{Trees}
use Rattle.gixobj_hash.specs.declared.decode.Error.TheVariants as decode
use Rattle.gixobj_hash.specs.declared.hash.object_id.ObjectId.{ObjectId}
use Rattle.gixobj_hash.specs.declared.kind.Kind.TheVariants.{Tree}
use Rattle.gixobj_store_keep.specs.ExistingTrees.{IsExistingTreeError, NamesSuch}
use Rattle.gixobj_store_keep.specs.declared.find.existing_object.Error as found
use Rattle.gixobj_store_keep.specs.declared.find.existing_object.Error.TheVariants as object
use Rattle.gixobj_tree_entries.specs.TreeDecoding.{DecodesToTree}
use Rattle.gixobj_tree_entries.specs.Entries.{EntryView}
use Rattle.gixobj_tree.specs.WellFormed.{IsWellFormed}
use Rattle.gixobj_editor_lookups.specs.declared.opening.Error.{Error}
use Rattle.gixobj_editor_lookups.specs.declared.opening.Error.TheVariants as opening
use Rattle.gixobj_editor_lookups.specs.declared.opening.NotLookedUp.{NotLookedUp}
use Rattle.gixobj_editor_lookups.specs.declared.opening.NotLookedUp.TheVariants as not_looked_up

-- an opening ends before this entry, by what it does at directories that are never looked up
abbrev pub EndsBefore : NotLookedUp → EntryView → Type 0
EndsBefore not_looked_up.Opened = IsNoTree
EndsBefore not_looked_up.Unopened = IsNotLookedUp

-- the id names a well-formed tree of these entries
abbrev pub NamesTree : Objects → ObjectId → List EntryView → Type 0
NamesTree objects id entries = NamesSuch objects id Tree (λ hash bytes. DecodesToTree hash bytes entries)
    × IsWellFormed entries

-- the trees are the well-formed ones that the store names, each by its id
abbrev pub AreTreesOf : Objects → Trees → Type 0
AreTreesOf objects trees = (id : ObjectId) (entries : List EntryView)
    → (trees id ≡ Some entries → NamesTree objects id entries)
    × (NamesTree objects id entries → trees id ≡ Some entries)

-- the statement holds of the well-formed trees that the objects name
abbrev pub OfTrees : Objects → (Trees → Type 0) → Type 0
OfTrees objects P = (trees : Trees) → AreTreesOf objects trees → P trees

-- the id names a tree that isn't well-formed
abbrev pub NamesIllFormedTree : Objects → ObjectId → Type 0
NamesIllFormedTree objects id = (entries : List EntryView)
    × NamesSuch objects id Tree (λ hash bytes. DecodesToTree hash bytes entries) × (¬ IsWellFormed entries)

-- the error of an opening for a failed lookup: any allocation failure is out of memory, and any other error the cause
abbrev pub open_error_of : found.Error → Error
open_error_of (object.Find (find.Store message)) = opening.FindExistingObject (object.Find (find.Store message))
open_error_of (object.Find find.OutOfMemory) = opening.OutOfMemory
open_error_of (object.Decode id decode.Malformed) = opening.FindExistingObject (object.Decode id decode.Malformed)
open_error_of (object.Decode id decode.OutOfMemory) = opening.OutOfMemory
open_error_of (object.NotFound id) = opening.FindExistingObject (object.NotFound id)
open_error_of (object.ObjectKind id actual expected) = opening.FindExistingObject (object.ObjectKind id actual expected)

-- the error of a directory that isn't opened: its lookup failed, its tree isn't well-formed, or an allocation failed
abbrev pub IsDirectoryError : Objects → (ObjectId → Bool) → ObjectId → Error → Type 0
IsDirectoryError objects may_fail id (opening.FindExistingObject cause) =
    IsExistingTreeError objects may_fail id cause × (open_error_of cause ≡ opening.FindExistingObject cause)
IsDirectoryError objects may_fail id opening.MalformedTree = NamesIllFormedTree objects id
IsDirectoryError objects may_fail id opening.OutOfMemory = ⊤

-- the error of an opening that stopped: that of the id that was looked up, or an allocation failure if there is none
abbrev pub IsOpenErrorAt : Objects → (ObjectId → Bool) → Option ObjectId → Error → Type 0
IsOpenErrorAt objects may_fail (Some id) error = IsDirectoryError objects may_fail id error
IsOpenErrorAt objects may_fail None error = error ≡ opening.OutOfMemory

-- Errors of removals: that of a name that a removal reaches, of a directory that isn't opened, and of a directory that
-- was to be removed as a leaf (git-update-index, `--force-remove`).
use Rattle.std.specs.Prelude.{◌≡◌, ◌++◌, ℕ, Bool, List, [], ◌∷◌, ⊤}
use Rattle.bstr.specs.Owned.{bstring_bytes, joined}
use Rattle.gixobj_store.specs.Stores.{Objects}
use Rattle.gixobj_editor_open.specs.Paths.{AreNames}
use Rattle.gixobj_editor_files.specs.Files.{Path, Trees}
use Rattle.gixobj_editor_files.specs.OpeningStops.{ReachesDirectory, IsEnteredOnPath, IsUnopenedAbove}
use Rattle.gixobj_editor_files.specs.Opening.{Dirs}
use Rattle.gixobj_hash.specs.declared.hash.object_id.ObjectId.{ObjectId}
use Rattle.gixobj_hash.specs.Bytes.{slash}
use Rattle.gixobj_tree_entries.specs.Entries.{EntryView}
use Rattle.gixobj_editor_lookups.specs.EditNames.{IsEntryNameError}
use Rattle.gixobj_editor_lookups.specs.Openings.{IsDirectoryError}
use Rattle.gixobj_editor_lookups.specs.declared.opening.Error as directory
use Rattle.gixobj_editor_lookups.specs.declared.opening.Error.TheVariants as opening
use Rattle.gixobj_editor_lookups.specs.declared.error.Error.{Error}
use Rattle.gixobj_editor_lookups.specs.declared.error.Error.TheVariants as error

-- the errors of one sort of edit, by the objects, the failing lookups, the trees, the open directories and the path
abbrev pub EditErrors : Type 1
EditErrors = Objects → (ObjectId → Bool) → Trees → Dirs → Path → Error → Type 0

-- a removal reaches this name of its path: the names before it are valid, and their directory is reached
abbrev pub ValidatesUpTo : (EntryView → Type 0) → Trees → Dirs → Path → List ℕ → Type 0
ValidatesUpTo StopsBefore trees dirs path name = (parent rest : Path) × (path ≡ parent ++ name ∷ rest) × AreNames parent
    × ReachesDirectory StopsBefore trees dirs parent

-- a removal reaches an invalid name, with this error
abbrev pub HasInvalidName : (EntryView → Type 0) → Trees → Dirs → Path → Error → Type 0
HasInvalidName StopsBefore trees dirs path failure = (name : List ℕ) × ValidatesUpTo StopsBefore trees dirs path name
    × IsEntryNameError name failure

-- a removal reaches a directory that isn't opened, with this cause
abbrev pub IsOpenErrorOnPath : Objects → (ObjectId → Bool) → Trees → Dirs → Path → directory.Error → Type 0
IsOpenErrorOnPath objects may_fail trees dirs path cause = (it : ObjectId) × (h : IsUnopenedAbove trees dirs path it)
    × AreNames h.parent × IsDirectoryError objects may_fail it cause

-- the errors of a removal whose opening ends before an entry that `StopsBefore` accepts, the first on the way from the
-- root: that of an invalid name; that of an unopened directory, which the store doesn't have as a well-formed tree, or
-- whose lookup fails. Or out of memory, if a directory is to be opened
abbrev pub IsRemovalErrorUpTo : (EntryView → Type 0) → EditErrors
IsRemovalErrorUpTo StopsBefore objects may_fail trees dirs path error.EmptyPathComponent =
    HasInvalidName StopsBefore trees dirs path error.EmptyPathComponent
IsRemovalErrorUpTo StopsBefore objects may_fail trees dirs path error.SlashInPathComponent =
    HasInvalidName StopsBefore trees dirs path error.SlashInPathComponent
IsRemovalErrorUpTo StopsBefore objects may_fail trees dirs path (error.FindExistingObject cause) =
    IsOpenErrorOnPath objects may_fail trees dirs path (opening.FindExistingObject cause)
IsRemovalErrorUpTo StopsBefore objects may_fail trees dirs path error.MalformedTree =
    IsOpenErrorOnPath objects may_fail trees dirs path opening.MalformedTree
IsRemovalErrorUpTo StopsBefore objects may_fail trees dirs path (error.CannotRemoveNonLeaf at) = ⊥
IsRemovalErrorUpTo StopsBefore objects may_fail trees dirs path error.OutOfMemory =
    IsEnteredOnPath StopsBefore trees dirs path

-- the errors for a directory that was to be removed as a leaf: its path, or out of memory for that path
abbrev pub IsLeafDirectoryError : Path → Error → Type 0
IsLeafDirectoryError path error.EmptyPathComponent = ⊥
IsLeafDirectoryError path error.SlashInPathComponent = ⊥
IsLeafDirectoryError path (error.FindExistingObject cause) = ⊥
IsLeafDirectoryError path error.MalformedTree = ⊥
IsLeafDirectoryError path (error.CannotRemoveNonLeaf at) = bstring_bytes at ≡ joined (slash ∷ []) path
IsLeafDirectoryError path error.OutOfMemory = ⊤

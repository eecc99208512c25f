-- Errors of upserts (git-update-index, `--cacheinfo`), and of edits at a path from an open directory.
use Rattle.std.specs.Prelude.{◌≡◌, ◌≢◌, ◌⊎◌, Bool, []}
use Rattle.gixobj_store.specs.Stores.{Objects}
use Rattle.gixobj_editor_open.specs.Paths.{AreNames}
use Rattle.gixobj_editor_files.specs.Files.{Path, Trees}
use Rattle.gixobj_editor_files.specs.OpeningStops.{IsUnopenedAbove}
use Rattle.gixobj_editor_files.specs.Opening.{Dirs}
use Rattle.gixobj_hash.specs.declared.hash.object_id.ObjectId.{ObjectId}
use Rattle.gixobj_editor_lookups.specs.EditNames.{IsFirstNameError}
use Rattle.gixobj_editor_lookups.specs.Openings.{IsDirectoryError}
use Rattle.gixobj_editor_lookups.specs.declared.opening.Error as directory
use Rattle.gixobj_editor_lookups.specs.declared.opening.Error.TheVariants as opening
use Rattle.gixobj_editor_lookups.specs.declared.error.Error.{Error}
use Rattle.gixobj_editor_lookups.specs.declared.error.Error.TheVariants as error

-- a directory above the path isn't opened, with this cause
abbrev pub IsUnopenedError : Objects → (ObjectId → Bool) → Trees → Dirs → Path → directory.Error → Type 0
IsUnopenedError objects may_fail trees dirs path cause = (it : ObjectId) × IsUnopenedAbove trees dirs path it
    × IsDirectoryError objects may_fail it cause

-- each name of the path is valid, and a directory above it isn't opened, with this cause
abbrev pub IsOpenErrorAbove : Objects → (ObjectId → Bool) → Trees → Dirs → Path → directory.Error → Type 0
IsOpenErrorAbove objects may_fail trees dirs path cause = AreNames path
    × IsUnopenedError objects may_fail trees dirs path cause

-- the errors of an upsert: that of the first invalid name. If each name is valid, that of an unopened directory above
-- the path: the store doesn't have it as a well-formed tree, or its lookup fails. Or out of memory, if the path has
-- names
abbrev pub IsUpsertError : Objects → (ObjectId → Bool) → Trees → Dirs → Path → Error → Type 0
IsUpsertError objects may_fail trees dirs path error.EmptyPathComponent = IsFirstNameError path error.EmptyPathComponent
IsUpsertError objects may_fail trees dirs path error.SlashInPathComponent =
    IsFirstNameError path error.SlashInPathComponent
IsUpsertError objects may_fail trees dirs path (error.FindExistingObject cause) =
    IsOpenErrorAbove objects may_fail trees dirs path (opening.FindExistingObject cause)
IsUpsertError objects may_fail trees dirs path error.MalformedTree =
    IsOpenErrorAbove objects may_fail trees dirs path opening.MalformedTree
IsUpsertError objects may_fail trees dirs path (error.CannotRemoveNonLeaf at) = ⊥
IsUpsertError objects may_fail trees dirs path error.OutOfMemory = AreNames path × (path ≢ [])

-- an error for an invalid name
abbrev pub IsNameError : Error → Type 0
IsNameError failure = (failure ≡ error.EmptyPathComponent) ⊎ (failure ≡ error.SlashInPathComponent)

-- the errors of an edit by a cursor: those of the editor; and out of memory for the path from the root, if the path has
-- names
abbrev pub IsCursorEditError : Path → (Error → Type 0) → Error → Type 0
IsCursorEditError path rejects failure = rejects failure ⊎ ((failure ≡ error.OutOfMemory) × (path ≢ []))

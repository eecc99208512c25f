-- What an edit that fails opens and looks up, and the error for a directory that isn't opened.
use Rattle.std.specs.Prelude.{◌≡◌, ◌≤◌, ◌++◌, ℕ, Bool, List, [], ◌∷◌, length, ⊤}
use Rattle.gixobj_store.specs.Stores.{Objects}
use Rattle.gixobj_editor_files.specs.Edits.{Opens, counted}
use Rattle.gixobj_editor_files.specs.Files.{Path, Trees}
use Rattle.gixobj_editor_files.specs.OpeningStops.{CountsEachLookup, IsNextUnopened}
use Rattle.gixobj_editor_files.specs.Opening.{Dirs}
use Rattle.gixobj_editor_files.specs.Unopened.{unopened_count}
use Rattle.gixobj_hash.specs.declared.hash.object_id.ObjectId.{ObjectId}
use Rattle.gixobj_tree_entries.specs.Entries.{EntryView}
use Rattle.gixobj_editor_lookups.specs.Openings.{IsDirectoryError}
use Rattle.gixobj_editor_lookups.specs.declared.opening.Error as directory
use Rattle.gixobj_editor_lookups.specs.declared.opening.Error.TheVariants as opening
use Rattle.gixobj_editor_lookups.specs.declared.error.Error.{Error}
use Rattle.gixobj_editor_lookups.specs.declared.error.Error.TheVariants as error

-- the error of an edit for a directory that isn't opened
abbrev pub edit_error : directory.Error → Error
edit_error (opening.FindExistingObject cause) = error.FindExistingObject cause
edit_error opening.MalformedTree = error.MalformedTree
edit_error opening.OutOfMemory = error.OutOfMemory

-- an error that only a lookup has: it failed, or found a tree that isn't well-formed
abbrev pub IsLookupError : Error → Type 0
IsLookupError error.EmptyPathComponent = ⊥
IsLookupError error.SlashInPathComponent = ⊥
IsLookupError (error.FindExistingObject cause) = ⊤
IsLookupError (error.CannotRemoveNonLeaf path) = ⊥
IsLookupError error.MalformedTree = ⊤
IsLookupError error.OutOfMemory = ⊥

-- the error of an edit, by the ids that were looked up without success. There is at most one, and the error is that of
-- its lookup; if there is none, the error isn't one of a lookup
abbrev pub IsErrorAfterLookup : Objects → (ObjectId → Bool) → List ObjectId → Error → Type 0
IsErrorAfterLookup objects may_fail [] failure = ¬ IsLookupError failure
IsErrorAfterLookup objects may_fail (it ∷ []) failure = (cause : directory.Error)
    × IsDirectoryError objects may_fail it cause × (failure ≡ edit_error cause)
IsErrorAfterLookup objects may_fail (it ∷ next ∷ more) failure = ⊥

-- the directories on a path are opened in part: those on a prefix of it, and no other. At most the next one was looked
-- up without success, as the error says. Each lookup is counted; there are at most as many as unopened directories
-- above the path
pub record OpensInPart (StopsBefore : EntryView → Type 0) (objects : Objects) (may_fail : ObjectId → Bool)
    (trees : Trees) (path : Path) (old new : Dirs) (before after : ℕ) (failure : Error) : Type 0 where
  pub reached : Path
  pub more : Path
  pub on_the_way : path ≡ reached ++ more
  pub looked_up : List ObjectId
  pub opens : Opens StopsBefore trees reached old new looked_up
  pub failed_lookup : List ObjectId
  pub cause : IsErrorAfterLookup objects may_fail failed_lookup failure
  pub next : (it : ObjectId) → failed_lookup ≡ it ∷ [] → IsNextUnopened trees old reached more it
  pub lookups : after ≡ counted before (looked_up ++ failed_lookup)
  pub at_most_unopened : length (looked_up ++ failed_lookup) ≤ unopened_count trees old path

-- an edit that runs out of memory has counted each lookup
abbrev pub HasCounted : (EntryView → Type 0) → Trees → Path → Dirs → Dirs → ℕ → ℕ → Error → Type 0
HasCounted StopsBefore trees path old new before after failure = failure ≡ error.OutOfMemory
    → CountsEachLookup StopsBefore trees path old new before after

-- Names in the paths of edits: which are valid, and the error for the first one that isn't (git-update-index).
use Rattle.std.specs.Prelude.{◌≡◌, ◌≢◌, ◌⊎◌, ◌++◌, ℕ, List, [], ◌∷◌, Contains, ⊤}
use Rattle.gixobj_editor_open.specs.Paths.{AreNames}
use Rattle.gixobj_editor_files.specs.Files.{Path}
use Rattle.gixobj_hash.specs.Bytes.{slash}
use Rattle.gixobj_tree.specs.WellFormed.{IsEntryName}
use Rattle.gixobj_editor_lookups.specs.declared.error.Error.{Error}
use Rattle.gixobj_editor_lookups.specs.declared.error.Error.TheVariants as error

-- the path without its last name
abbrev pub directory_of : Path → Path
directory_of [] = []
directory_of (name ∷ []) = []
directory_of (name ∷ next ∷ rest) = name ∷ directory_of (next ∷ rest)

-- the path from the root of a path from a cursor; it is empty for an empty path
abbrev pub from_root : Path → Path → Path
from_root prefix [] = []
from_root prefix (name ∷ path) = prefix ++ name ∷ path

-- the error for an invalid name: it is empty, or it contains a slash
abbrev pub IsEntryNameError : List ℕ → Error → Type 0
IsEntryNameError name error.EmptyPathComponent = name ≡ []
IsEntryNameError name error.SlashInPathComponent = (name ≢ []) × Contains name slash
IsEntryNameError name (error.FindExistingObject cause) = ⊥
IsEntryNameError name (error.CannotRemoveNonLeaf path) = ⊥
IsEntryNameError name error.MalformedTree = ⊥
IsEntryNameError name error.OutOfMemory = ⊥

-- the error for the first invalid name of a path
abbrev pub IsFirstNameError : Path → Error → Type 0
IsFirstNameError [] failure = ⊥
IsFirstNameError (name ∷ path) failure = IsEntryNameError name failure
    ⊎ (IsEntryName name × IsFirstNameError path failure)

-- if there is a first name, it is invalid
abbrev pub StartsInvalid : Path → Type 0
StartsInvalid [] = ⊤
StartsInvalid (name ∷ path) = ¬ IsEntryName name

-- a path, split into its valid names and those from the first invalid one on; if all are valid, the first part is the
-- path without its last name
abbrev pub SplitsForRemoval : Path → Path → Path → Type 0
SplitsForRemoval path names [] = AreNames path × (names ≡ directory_of path)
SplitsForRemoval path names (name ∷ rest) = AreNames names × (¬ IsEntryName name) × (path ≡ names ++ name ∷ rest)

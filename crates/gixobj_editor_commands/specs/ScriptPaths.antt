-- Names of the paths in a script.
use Rattle.std.specs.Prelude.{◌≡◌, ◌≢◌, ◌⊎◌, ℕ, List, [], codes}
use Rattle.gixobj_hash.specs.Splits.{IsSplitAtEach}
use Rattle.gixobj_hash.specs.Bytes.{slash}

-- the path `.`
abbrev pub root_path : List ℕ
root_path = codes "."

-- the names of a path: none for `.`, and for each other path its parts between slashes, which may be empty
abbrev pub ArePathNames : List ℕ → List (List ℕ) → Type 0
ArePathNames path names = ((path ≡ root_path) × (names ≡ [])) ⊎ ((path ≢ root_path) × IsSplitAtEach slash path names)

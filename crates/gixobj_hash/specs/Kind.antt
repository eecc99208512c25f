-- The kinds of objects and their names (gitformat-loose, "Loose object format").
pub mod NameError
use Rattle.std.specs.Prelude.{◌≡◌, ◌≢◌, ℕ, List, codes}
use Rattle.gixobj_hash.specs.declared.kind.Kind.{Kind}
use Rattle.gixobj_hash.specs.declared.kind.Kind.TheVariants.{Tree, Blob, Commit, Tag}

-- the name of a kind of object
abbrev pub kind_name : Kind → List ℕ
kind_name Tree = codes "tree"
kind_name Blob = codes "blob"
kind_name Commit = codes "commit"
kind_name Tag = codes "tag"

-- the name is unknown: it differs from the name of each kind of object
abbrev pub IsUnknownKindName : List ℕ → Type 0
IsUnknownKindName token = (kind : Kind) → token ≢ kind_name kind

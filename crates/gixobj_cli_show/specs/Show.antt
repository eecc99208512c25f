-- The kind, the size and the id of a loose object, and the line that `show` prints.
use Rattle.std.specs.Prelude.{◌≡◌, ℕ, List, [], ◌∷◌, ◌++◌, decimal, length}
use Rattle.gixobj_hash.specs.Bytes.{newline, space}
use Rattle.gixobj_hash.specs.Decode.{HasContent, IsShort}
use Rattle.gixobj_hash.specs.Hash.{encode_id_hex, id_of}
use Rattle.gixobj_hash.specs.Kind.{kind_name}
use Rattle.gixobj_hash.specs.declared.hash.kind.Kind as hash
use Rattle.gixobj_hash.specs.declared.hash.object_id.ObjectId.{ObjectId}
use Rattle.gixobj_hash.specs.declared.kind.Kind.{Kind}
use Rattle.gixobj_cli_show.specs.Failure.{BeginsWithNoLooseHeader}
use Rattle.gixobj_cli_show.specs.declared.failure.Failure.{Failure}
use Rattle.gixobj_cli_show.specs.declared.failure.Failure.TheVariants.{BadHeader, OutOfMemory, ShortData}

-- the input begins with a loose object of this kind, size and id
abbrev pub IsShown : hash.Kind → List ℕ → Kind → ℕ → ObjectId → Type 0
IsShown hash input kind size id = (content : List ℕ) × HasContent input kind content × (size ≡ length content)
    × (id ≡ id_of hash kind content)

-- `show` fails with this error; only the error of a malformed header allocates
abbrev pub IsShowError : List ℕ → Failure → Type 0
IsShowError input BadHeader = BeginsWithNoLooseHeader input
IsShowError input OutOfMemory = BeginsWithNoLooseHeader input
IsShowError input ShortData = IsShort input
IsShowError input _ = ⊥

-- the line of an object: its kind, its size in decimal and its id in hex, separated by spaces
abbrev pub show_line : Kind → ℕ → ObjectId → List ℕ
show_line kind size id = kind_name kind ++ space ∷ decimal size ++ space ∷ encode_id_hex id ++ newline ∷ []

-- the line is that of the loose object at the beginning of the input
abbrev pub IsShowLine : hash.Kind → List ℕ → List ℕ → Type 0
IsShowLine hash input line = (kind : Kind) × (size : ℕ) × (id : ObjectId) × IsShown hash input kind size id
    × (line ≡ show_line kind size id)

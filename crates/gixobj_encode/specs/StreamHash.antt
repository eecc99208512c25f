-- Reads, results and errors of computing the id of an object whose content is streamed.
use Rattle.std.specs.Prelude.{◌≡◌, ◌<◌, ◌++◌, ℕ, List, Option, length}
use Rattle.std.specs.Io.KnownBytes.{Consumes, IsAtEnd}
use Rattle.gixobj_hash.specs.Hash.{id_of}
use Rattle.gixobj_hash.specs.Hash.Hasher.{HoldsMessage}
use Rattle.gixobj_hash.specs.declared.hash.hasher.Hasher.{Hasher}
use Rattle.gixobj_hash.specs.declared.hash.kind.Kind.{Kind}
use Rattle.gixobj_hash.specs.declared.hash.object_id.ObjectId.{ObjectId}
use Rattle.gixobj_hash.specs.declared.kind.Kind as object
use Rattle.gixobj_encode.specs.declared.stream_hash.Error.{Error}
use Rattle.gixobj_encode.specs.declared.stream_hash.Error.TheVariants.{Io, UnexpectedEof}

-- these bytes were read, and `count` is their number
pub record ReadsExactly (before after : Option (List ℕ)) (count : ℕ) (bytes : List ℕ) : Type 0 where
  pub consumed : Consumes before after bytes
  pub counted : length bytes ≡ count

-- exactly `count` bytes were read
abbrev pub SkipsExactly : Option (List ℕ) → Option (List ℕ) → ℕ → Type 0
SkipsExactly before after count = (bytes : List ℕ) × ReadsExactly before after count bytes

-- fewer than `count` bytes were read
pub record ReadsPrefix (before after : Option (List ℕ)) (count : ℕ) : Type 0 where
  pub prefix : List ℕ
  pub consumed : Consumes before after prefix
  pub missing : length prefix < count

-- the hasher appended these bytes to its message
abbrev pub AddsBytes : Hasher → Hasher → List ℕ → Type 0
AddsBytes before after bytes = (kind : Kind) (message : List ℕ) → HoldsMessage kind before message
    → HoldsMessage kind after (message ++ bytes)

-- exactly `count` bytes were read, and the id is that of the object of this kind with these bytes as content
abbrev pub ReadsObject : Kind → object.Kind → Option (List ℕ) → Option (List ℕ) → ℕ → ObjectId → Type 0
ReadsObject hash kind before after count id = (content : List ℕ) × ReadsExactly before after count content
    × (id ≡ id_of hash kind content)

-- Io: the stream may fail; UnexpectedEof: the stream is at its end; fewer than `count` bytes were read
abbrev pub IsStreamError : Type 0 → Option (List ℕ) → Option (List ℕ) → ℕ → Error → Type 0
IsStreamError may_fail before after count (Io cause) = may_fail × ReadsPrefix before after count
IsStreamError may_fail before after count UnexpectedEof = ReadsPrefix before after count × IsAtEnd after

-- Results of writes to a store in memory that is in a cell (git-hash-object, `-w`).
use Rattle.std.specs.Prelude.{◌≡◌, ℕ, Err, List, Ok, Option, Result, codes, ⊤}
use Rattle.bstr.specs.Owned.{bstring_bytes}
use Rattle.gixobj_encode.specs.StreamHash.{ReadsObject, IsStreamError, SkipsExactly}
use Rattle.gixobj_hash.specs.declared.hash.kind.Kind.TheVariants.{Sha1}
use Rattle.gixobj_hash.specs.declared.hash.object_id.ObjectId.{ObjectId}
use Rattle.gixobj_hash.specs.declared.kind.Kind.{Kind}
use Rattle.gixobj_store_keep.specs.declared.write.Error.{Error}
use Rattle.gixobj_store_keep.specs.declared.write.Error.TheVariants.{Encode, OutOfMemory, Read, Store}

-- the error of a cell that is borrowed; or out of memory
abbrev pub IsInUse : Error → Type 0
IsInUse (Store message) = bstring_bytes message ≡ codes "the store is in use"
IsInUse OutOfMemory = ⊤
IsInUse (Read cause) = ⊥
IsInUse (Encode cause) = ⊥

-- the error of a write of content: that of the stream, or of a cell that is borrowed; or out of memory
abbrev pub IsCellError : Option (List ℕ) → ℕ → Error → Type 0
IsCellError before size (Read cause) = (after : Option (List ℕ)) × IsStreamError ⊤ before after size cause
IsCellError before size (Store message) = IsInUse (Store message)
IsCellError before size OutOfMemory = ⊤
IsCellError before size (Encode cause) = ⊥

-- the result is the SHA-1 id of the object whose content is the next `size` bytes of the stream; or it is an error
abbrev pub AnswersId : Kind → ℕ → Option (List ℕ) → Result ObjectId Error → Type 0
AnswersId kind size before (Ok id) = (after : Option (List ℕ)) × ReadsObject Sha1 kind before after size id
AnswersId kind size before (Err error) = IsCellError before size error

-- the result is the known id, and the next `size` bytes of the stream are read; or it is an error
abbrev pub AnswersKnownId : ObjectId → Kind → ℕ → Option (List ℕ) → Result ObjectId Error → Type 0
AnswersKnownId known kind size before (Ok id) = (id ≡ known)
    × ((after : Option (List ℕ)) × SkipsExactly before after size)
AnswersKnownId known kind size before (Err error) = IsCellError before size error

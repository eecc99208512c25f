-- Results of writes to the store that keeps nothing (git-hash-object, without `-w`).
use Rattle.std.specs.Prelude.{◌≡◌, ℕ, Err, List, Ok, Option, Result, ⊤}
use Rattle.gixobj_encode.specs.StreamHash.{ReadsObject, IsStreamError, SkipsExactly}
use Rattle.gixobj_encode.specs.declared.stream_hash.Error as stream
use Rattle.gixobj_hash.specs.declared.hash.kind.Kind.TheVariants.{Sha1}
use Rattle.gixobj_hash.specs.declared.hash.object_id.ObjectId.{ObjectId}
use Rattle.gixobj_hash.specs.declared.kind.Kind.{Kind}
use Rattle.gixobj_store_keep.specs.declared.write.Error.{Error}
use Rattle.gixobj_store_keep.specs.declared.write.Error.TheVariants.{Read}

-- the error of a read: the stream failed or is at its end, and fewer than `size` bytes were read
abbrev pub IsReadError : Option (List ℕ) → Option (List ℕ) → ℕ → Error → Type 0
IsReadError before after size error = (cause : stream.Error) × (error ≡ Read cause)
    × IsStreamError ⊤ before after size cause

-- the result is the SHA-1 id of the object whose content is the next `size` bytes of the stream; or it is the error of
-- a read of these bytes
abbrev pub AnswersId : Kind → ℕ → Option (List ℕ) → Result ObjectId Error → Type 0
AnswersId kind size before (Ok id) = (after : Option (List ℕ)) × ReadsObject Sha1 kind before after size id
AnswersId kind size before (Err error) = (after : Option (List ℕ)) × IsReadError before after size error

-- the result is the known id, and the next `size` bytes of the stream are read; or it is the error of a read of these
-- bytes
abbrev pub AnswersKnownId : ObjectId → Kind → ℕ → Option (List ℕ) → Result ObjectId Error → Type 0
AnswersKnownId known kind size before (Ok id) = (id ≡ known)
    × ((after : Option (List ℕ)) × SkipsExactly before after size)
AnswersKnownId known kind size before (Err error) = (after : Option (List ℕ)) × IsReadError before after size error

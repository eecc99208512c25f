-- Writes of objects to a store (git-hash-object, `-w`).
use Rattle.std.specs.Prelude.{◌≡◌, ◌⊎◌, ℕ, Err, List, [], Option, Result, Some, length}
use Rattle.std.specs.declared.alloc.Global.{Global}
use Rattle.std.specs.declared.vec.Vec.{Vec}
use Rattle.gixobj_streams.specs.Streams.{list_view}
use Rattle.gixobj_streams.specs.Writing.{RejectedValue, RejectsNothing, IsWritingError}
use Rattle.gixobj_streams.specs.declared.encode.Error as encode
use Rattle.gixobj_hash.specs.declared.hash.object_id.ObjectId.{ObjectId}
use Rattle.gixobj_hash.specs.declared.kind.Kind.{Kind}
use Rattle.gixobj_store_keep.specs.declared.write.Error.{Error}
use Rattle.gixobj_store_keep.specs.declared.write.Error.TheVariants.{Encode}

-- the results of a store for an object of this kind and size, and a stream of these bytes if they are known
abbrev pub AnswersStreams : Type 1
AnswersStreams = Kind → ℕ → Option (List ℕ) → Result ObjectId Error → Type 0

-- the result is the error of encoding the object to an empty list
abbrev pub CannotEncode : (RejectedValue → List ℕ → Type 0) → List ℕ → Result ObjectId Error → Type 0
CannotEncode Rejects content result = (cause : encode.Error) × (result ≡ Err (Encode cause))
    × ((before after : Vec ℕ Global) × (before.items ≡ [])
    × IsWritingError Rejects (list_view before) (list_view after) content cause)

-- the result of a write: that for the stream of the object's encoding if no value is rejected; or the error of encoding
-- it
abbrev pub IsWrittenObject : AnswersStreams → Kind → (RejectedValue → List ℕ → Type 0) → List ℕ → Result ObjectId Error
    → Type 0
IsWrittenObject answers kind Rejects content result =
    (RejectsNothing Rejects × answers kind (length content) (Some content) result) ⊎ CannotEncode Rejects content result

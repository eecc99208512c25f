-- Errors of taking over a loose object.
use Rattle.std.specs.Prelude.{◌≡◌, ℕ, List, []}
use Rattle.std.specs.declared.alloc.Global.{Global}
use Rattle.std.specs.declared.vec.Vec.{Vec}
use Rattle.gix_object.specs.BorrowedObjects.{IsBorrowedObjectError, borrowed_kind, encode_borrowed_object}
use Rattle.gix_object.specs.Checksums.{HasBothIds}
use Rattle.gix_object.specs.Hash.{id_kind, id_of}
use Rattle.gix_object.specs.LooseObjects.{IsLooseObject, IsLooseObjectError}
use Rattle.gix_object.specs.Streams.{list_view}
use Rattle.gix_object.specs.Writing.{IsWritingError}
use Rattle.gix_object.specs.fields.encode.Error.{Error}
use Rattle.gix_object.specs.hash.hash.object_id.ObjectId.{ObjectId}
use Rattle.gix_object.specs.object.object.borrowed.ObjectRef.{ObjectRef}
use Rattle.gixobj_examples_objects.specs.declared.store.TakeError.{TakeError}
use Rattle.gixobj_examples_objects.specs.declared.store.TakeError.TheVariants.{Read, Verify, Write}

-- the object isn't encoded into an empty list
abbrev pub IsNotWritten : ObjectRef → Error → Type 0
IsNotWritten object error =
    (before after : Vec ℕ Global) × (before.items ≡ []) × IsWritingError (IsBorrowedObjectError object)
    (list_view before) (list_view after) (encode_borrowed_object object) error

-- the errors: the loose object isn't decoded; or it isn't encoded; or its encoding has another id
abbrev pub IsTakeError : List ℕ → ObjectId → TakeError → Type 0
IsTakeError loose id (Read error) = IsLooseObjectError (id_kind id) loose error
IsTakeError loose id (Write error) = (object : ObjectRef) × IsLooseObject (id_kind id) loose object
    × IsNotWritten object error
IsTakeError loose id (Verify error) =
    (object : ObjectRef) × IsLooseObject (id_kind id) loose object
    × HasBothIds (id_of (id_kind id) (borrowed_kind object) (encode_borrowed_object object)) id error

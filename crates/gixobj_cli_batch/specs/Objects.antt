-- The store of the objects of records.
use Rattle.std.specs.Prelude.{Bool, false, List, [], ◌∷◌}
use Rattle.std.specs.FinMap as finite
use Rattle.gix_object.specs.Hash.{id_kind}
use Rattle.gix_object.specs.Stores.{Objects}
use Rattle.gix_object.specs.hash.hash.object_id.ObjectId.{ObjectId}
use Rattle.gixobj_records.specs.Records.{RecordView, missing, object}

-- the objects, with that of a record under its id
abbrev pub with_record : Objects → RecordView → Objects
with_record objects (object id kind content) =
    finite.insert objects id (record { kind = kind; object_hash = id_kind id; bytes = content })
with_record objects (missing id) = objects

-- the objects, with those of the records one after the other
abbrev pub with_records : Objects → List RecordView → Objects
with_records objects [] = objects
with_records objects (it ∷ records) = with_records (with_record objects it) records

-- the objects of the records; of two with one id, the later one
abbrev pub objects_of : List RecordView → Objects
objects_of records = with_records finite.empty records

-- no lookup fails: the objects are in memory
abbrev pub never_fails : ObjectId → Bool
never_fails id = false

-- Ids of objects that are not decoded yet (git-hash-object).
use Rattle.std.specs.Prelude.{◌≡◌}
use Rattle.gixobj_hash.specs.Hash.{id_of}
use Rattle.gixobj_hash.specs.declared.hash.kind.Kind.{Kind}
use Rattle.gixobj_hash.specs.declared.hash.object_id.ObjectId.{ObjectId}
use Rattle.gixobj_store.specs.declared.«data».Data.{Data}
use Rattle.gixobj_store.specs.declared.«data».verify.Error.{Error}
use Rattle.gixobj_store.specs.declared.«data».verify.Error.TheVariants.{Verify}

-- the id of an object by this hash kind: that of its kind and its content
abbrev pub checksum : Kind → Data → ObjectId
checksum kind it = id_of kind it.kind it.bytes.now

-- the error has the actual id and the expected id
abbrev pub HasBothIds : ObjectId → ObjectId → Error → Type 0
HasBothIds actual expected (Verify error) = (error.actual ≡ actual) × (error.expected ≡ expected)

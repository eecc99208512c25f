-- The value of a borrowed id.
use Rattle.std.specs.Prelude.{◌==◌, length, if◌then◌else◌}
use Rattle.gixobj_hash.specs.declared.hash.borrowed.oid.{oid}
use Rattle.gixobj_hash.specs.declared.hash.object_id.ObjectId.{ObjectId}
use Rattle.gixobj_hash.specs.declared.hash.object_id.ObjectId.TheVariants.{Sha1, Sha256}

-- the owned id with the bytes of a borrowed one; its length decides the hash function
abbrev pub borrowed_id : oid → ObjectId
borrowed_id it = if length it.bytes.now == 20 then Sha1 it.bytes.now else Sha256 it.bytes.now

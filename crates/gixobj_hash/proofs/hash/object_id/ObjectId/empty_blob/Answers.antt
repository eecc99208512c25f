use Rattle.std.proofs.Common.{sym}
use Rattle.gixobj_hash.proofs.EmptyObjects.{sha1_empty_blob_id, sha256_empty_blob_id}
use Rattle.gixobj_hash.proofs.hash.object_id.ObjectId.empty_blob.Goals as goal

pub returns-in-Sha1 : goal.returns-in-Sha1
returns-in-Sha1 c = rw c.in-Sha1.is (sym sha1_empty_blob_id)

pub returns-in-Sha256 : goal.returns-in-Sha256
returns-in-Sha256 c = rw c.in-Sha256.is (sym sha256_empty_blob_id)

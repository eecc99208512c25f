use Rattle.std.proofs.Common.{rules}
use Rattle.gixobj_hash.proofs.hash.object_id.ObjectId.kind.Goals as goal

pub returns-in-Sha256 : goal.returns-in-Sha256
returns-in-Sha256 c = search rules

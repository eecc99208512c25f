use Rattle.std.proofs.Common.{rules}
use Rattle.gixobj_hash.proofs.hash.object_id.ObjectId.as_bytes.Goals as goal

pub returns-in-Sha256-clause-value : goal.returns-in-Sha256-clause-value
returns-in-Sha256-clause-value c = search rules

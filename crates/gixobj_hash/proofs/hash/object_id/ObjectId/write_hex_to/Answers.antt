use Rattle.std.proofs.Common.{rules}
use Rattle.gixobj_hash.proofs.hash.object_id.ObjectId.write_hex_to.Goals as goal

pub returns : goal.returns
returns g c = search rules

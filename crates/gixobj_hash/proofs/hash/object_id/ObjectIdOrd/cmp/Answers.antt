use Rattle.std.proofs.Common.{rules}
use Rattle.gixobj_hash.proofs.hash.object_id.ObjectIdOrd.cmp.Goals as goal

pub returns : goal.returns
returns c = search rules

use Rattle.std.proofs.Common.{rules}
use Rattle.gixobj_hash.proofs.hash.object_id.ObjectIdDisplay.fmt.Goals as goal

pub returns-clause-writes : goal.returns-clause-writes
returns-clause-writes g c = search rules

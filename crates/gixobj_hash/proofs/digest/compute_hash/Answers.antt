use Rattle.std.proofs.Common.{rules}
use Rattle.gixobj_hash.proofs.digest.compute_hash.Goals as goal

pub returns : goal.returns
returns c = search rules

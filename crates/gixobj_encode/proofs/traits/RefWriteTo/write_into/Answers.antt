use Rattle.std.proofs.Common.{rules}
use Rattle.gixobj_encode.proofs.traits.RefWriteTo.write_into.Goals as goal

pub returns-clause-written : goal.returns-clause-written
returns-clause-written g c = search rules

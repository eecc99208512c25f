use Rattle.std.proofs.Common.{rules}
use Rattle.gixobj_actor.proofs.actor.Signature.write_into.Goals as goal

pub returns-clause-error : goal.returns-clause-error
returns-clause-error g c = search rules

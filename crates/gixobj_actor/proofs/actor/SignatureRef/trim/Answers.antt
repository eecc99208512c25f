use Rattle.std.proofs.Common.{rules}
use Rattle.gixobj_actor.proofs.actor.SignatureRef.trim.Goals as goal

pub returns-clause-email : goal.returns-clause-email
returns-clause-email c = search rules

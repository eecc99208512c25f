use Rattle.std.proofs.Common.{rules}
use Rattle.gixobj_actor.proofs.actor.SignatureRef.to_owned.Goals as goal

pub returns-clause-name : goal.returns-clause-name
returns-clause-name c = search rules

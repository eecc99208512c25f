use Rattle.std.proofs.Common.{rules}
use Rattle.gixobj_actor.proofs.actor.SignatureRef.from_bytes_consuming.Goals as goal

pub returns-in-None-clause-unchanged : goal.returns-in-None-clause-unchanged
returns-in-None-clause-unchanged c = search rules

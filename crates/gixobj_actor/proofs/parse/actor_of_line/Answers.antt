use Rattle.std.proofs.Common.{refl}
use Rattle.gixobj_actor.proofs.parse.actor_of_line.Goals as goal

pub returns-in-None-clause-error : goal.returns-in-None-clause-error
returns-in-None-clause-error c = (refl, rw c.as_bytes.ensures at c.in-None.ensures.none)

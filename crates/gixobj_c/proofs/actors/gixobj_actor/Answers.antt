-- A line without `<` has no actor.
use Rattle.std.proofs.Common.{inr, refl}
use Rattle.gixobj_c.proofs.ActorParts.{no_actor_of_byte_free}
use Rattle.gixobj_c.proofs.actors.gixobj_actor.Goals as goal

pub returns-in_default : goal.returns-in_default
returns-in_default c = inr (refl, no_actor_of_byte_free _ c.in_default.ensures.none, refl)

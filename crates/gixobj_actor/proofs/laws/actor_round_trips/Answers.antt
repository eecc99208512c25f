use Rattle.gixobj_actor.proofs.EncodedActors.{encode_actor_is_actor_line}
use Rattle.gixobj_actor.proofs.laws.actor_round_trips.Goals as goal

pub returns : goal.returns
returns c = encode_actor_is_actor_line

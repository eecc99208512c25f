use Rattle.gixobj_actor.proofs.ActorLines.{actor_line_unique}
use Rattle.gixobj_actor.proofs.laws.actor_line_decodes_uniquely.Goals as goal

pub returns-clause-one_actor : goal.returns-clause-one_actor
returns-clause-one_actor c = actor_line_unique

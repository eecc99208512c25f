use Rattle.std.proofs.Common.{arith}
use Rattle.std.proofs.lemmas.Grind.{common_steps}
use Rattle.gixobj_actor.proofs.actor.write_actor.Goals as goal

pub returns-clause-appended : goal.returns-clause-appended
returns-clause-appended g c = grind (arith, common_steps)

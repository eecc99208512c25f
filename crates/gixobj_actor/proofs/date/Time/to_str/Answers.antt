use Rattle.std.proofs.Common.{rules}
use Rattle.gixobj_actor.proofs.date.Time.to_str.Goals as goal

pub returns-clause-encoded : goal.returns-clause-encoded
returns-clause-encoded c = search rules

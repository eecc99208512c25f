use Rattle.std.proofs.Common.{rules}
use Rattle.gixobj_object.proofs.object.borrowed.ObjectRef.as_commit.Goals as goal

pub returns-in_default : goal.returns-in_default
returns-in_default c = search rules

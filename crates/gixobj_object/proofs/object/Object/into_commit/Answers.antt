use Rattle.std.proofs.Common.{rules}
use Rattle.gixobj_object.proofs.object.Object.into_commit.Goals as goal

pub returns : goal.returns
returns c = search rules

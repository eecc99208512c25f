use Rattle.std.proofs.Common.{rules}
use Rattle.gixobj_object.proofs.object.borrowed.convert.ObjectRefFromCommitRef.from.Goals as goal

pub returns : goal.returns
returns c = search rules

use Rattle.std.proofs.Common.{rules}
use Rattle.gixobj_object.proofs.object.borrowed.ObjectRef.into_owned.Goals as goal

pub returns-clause-error : goal.returns-clause-error
returns-clause-error c = search rules

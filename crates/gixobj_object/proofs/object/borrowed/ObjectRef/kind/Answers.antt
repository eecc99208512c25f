use Rattle.std.proofs.Common.{rules}
use Rattle.gixobj_object.proofs.object.borrowed.ObjectRef.kind.Goals as goal

pub returns-in-Blob : goal.returns-in-Blob
returns-in-Blob c = search rules

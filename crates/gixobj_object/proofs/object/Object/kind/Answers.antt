use Rattle.std.proofs.Common.{rules}
use Rattle.gixobj_object.proofs.object.Object.kind.Goals as goal

pub returns-in-Tag : goal.returns-in-Tag
returns-in-Tag c = search rules

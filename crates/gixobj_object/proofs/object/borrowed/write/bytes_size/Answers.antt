use Rattle.std.proofs.Common.{rules}
use Rattle.gixobj_object.proofs.object.borrowed.write.bytes_size.Goals as goal

pub returns-in-Commit : goal.returns-in-Commit
returns-in-Commit c = search rules

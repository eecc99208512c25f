use Rattle.std.proofs.Common.{length}
use Rattle.gixobj_editor_write.proofs.write.+write_recursively.Given as goal

abbrev pub decreases-write_recursively : goal.decreases-write_recursively
decreases-write_recursively g l = length l.path.now

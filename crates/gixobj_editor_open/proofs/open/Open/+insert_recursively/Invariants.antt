use Rattle.std.proofs.Common.{length}
use Rattle.gixobj_editor_open.proofs.open.Open.+insert_recursively.Given as goal

abbrev pub decreases-insert_recursively : goal.decreases-insert_recursively
decreases-insert_recursively l = length l.path.now

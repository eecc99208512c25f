use Rattle.std.proofs.Common.{length}
use Rattle.gixobj_editor_open.proofs.open.Open.+ensure_recursively.Given as goal

abbrev pub decreases-ensure_recursively : goal.decreases-ensure_recursively
decreases-ensure_recursively l = length l.path.now

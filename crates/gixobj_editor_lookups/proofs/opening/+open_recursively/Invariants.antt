use Rattle.std.proofs.Common.{length}
use Rattle.gixobj_editor_lookups.proofs.opening.+open_recursively.Given as goal

abbrev pub decreases-open_recursively : goal.decreases-open_recursively
decreases-open_recursively g l = length l.path.now

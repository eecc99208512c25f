use Rattle.std.proofs.Common.{length}
use Rattle.gixobj_editor_open.proofs.open.Open.+take_recursively.Given as goal

abbrev pub decreases-take_recursively : goal.decreases-take_recursively
decreases-take_recursively l = length l.path.now

-- The parts before the rest.
use Rattle.std.proofs.Common.{length}
use Rattle.gixobj_editor_commands.specs.Views.{path_names}
use Rattle.gixobj_hash.proofs.SplitsAtEach.{ArePrefixes}
use Rattle.gixobj_editor_commands.proofs.path.parts_at.Given as goal

abbrev pub invariant-loop-part : goal.invariant-loop-part
invariant-loop-part l = ArePrefixes l.byte l.fn.content l.rest (path_names l.parts.items)

abbrev pub decreases-loop-part : goal.decreases-loop-part
decreases-loop-part l = length l.rest

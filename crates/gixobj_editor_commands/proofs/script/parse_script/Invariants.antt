-- The lines before the rest, and their commands.
use Rattle.std.proofs.Common.{length, map}
use Rattle.gixobj_editor_commands.specs.Views.{command_view}
use Rattle.gixobj_editor_commands.proofs.ScriptDecoding.{IsReadTo}
use Rattle.gixobj_editor_commands.proofs.script.parse_script.Given as goal

abbrev pub invariant-loop-line : goal.invariant-loop-line
invariant-loop-line l = IsReadTo l.hash l.fn.bytes l.rest (map command_view l.commands.items) l.number

abbrev pub decreases-loop-line : goal.decreases-loop-line
decreases-loop-line l = length l.rest

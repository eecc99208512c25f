use Rattle.std.proofs.Common.{◌≡◌, take}
use Rattle.std.specs.List.{flat_map}
use Rattle.gixobj_cli_batch.specs.Lines.{change_line}
use Rattle.gixobj_cli_batch.proofs.differences.lines_of.Given as goal

-- the lines so far
abbrev pub invariant-loop-change : goal.invariant-loop-change
invariant-loop-change l = l.lines.items ≡ flat_map change_line (take l.change-index l.changes)

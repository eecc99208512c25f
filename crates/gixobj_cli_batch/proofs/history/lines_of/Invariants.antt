use Rattle.std.proofs.Common.{◌≡◌, take}
use Rattle.std.specs.List.{flat_map}
use Rattle.gixobj_cli_batch.specs.Lines.{log_line}
use Rattle.gixobj_cli_batch.proofs.history.lines_of.Given as goal

-- the lines so far
abbrev pub invariant-loop-commit : goal.invariant-loop-commit
invariant-loop-commit l = l.lines.items ≡ flat_map log_line (take l.commit-index l.commits)

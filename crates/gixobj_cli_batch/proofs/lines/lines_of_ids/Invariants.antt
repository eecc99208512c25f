use Rattle.std.proofs.Common.{◌≡◌, take}
use Rattle.std.specs.List.{flat_map}
use Rattle.gixobj_cli_batch.specs.Lines.{commit_line}
use Rattle.gixobj_cli_batch.proofs.lines.lines_of_ids.Given as goal

-- the lines so far
abbrev pub invariant-loop-id : goal.invariant-loop-id
invariant-loop-id l = l.lines.items ≡ flat_map commit_line (take l.id-index l.ids)

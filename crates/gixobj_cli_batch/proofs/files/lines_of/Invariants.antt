use Rattle.std.proofs.Common.{◌≡◌, take}
use Rattle.std.specs.List.{flat_map}
use Rattle.gixobj_cli_batch.specs.Lines.{file_line}
use Rattle.gixobj_cli_batch.proofs.files.lines_of.Given as goal

-- the lines so far
abbrev pub invariant-loop-file : goal.invariant-loop-file
invariant-loop-file l = l.lines.items ≡ flat_map file_line (take l.file-index l.files)

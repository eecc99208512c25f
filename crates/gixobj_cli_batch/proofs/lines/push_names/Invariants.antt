use Rattle.std.proofs.Common.{◌≡◌, ◌++◌, take}
use Rattle.gix_object.specs.Calls.{names_of}
use Rattle.gixobj_cli_batch.specs.Lines.{more_path_bytes}
use Rattle.gixobj_cli_batch.proofs.lines.push_names.Given as goal

-- the names so far are appended
abbrev pub invariant-loop-name : goal.invariant-loop-name
invariant-loop-name l = l.lines.items ≡ l.initial.lines.items ++ more_path_bytes (names_of (take l.name-index l.names))

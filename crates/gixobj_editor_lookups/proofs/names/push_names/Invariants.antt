use Rattle.std.proofs.Common.{◌≡◌, ◌++◌, drop}
use Rattle.gixobj_editor_open.specs.Paths.{names_of}
use Rattle.gixobj_editor_lookups.proofs.names.push_names.Given as goal

abbrev pub invariant-loop-name : goal.invariant-loop-name
invariant-loop-name l = names_of l.names.items ++ names_of (drop l.name-index l.path) ≡ names_of l.fn.names.items ++ names_of l.path

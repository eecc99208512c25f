use Rattle.std.proofs.Common.{take}
use Rattle.gixobj_editor_open.specs.Paths.{AreNames, names_of}
use Rattle.gixobj_editor_lookups.proofs.names.validate_names.Given as goal

-- the names so far are valid
abbrev pub invariant-loop-name : goal.invariant-loop-name
invariant-loop-name l = AreNames (names_of (take l.name-index l.path))

use Rattle.std.proofs.Common.{take}
use Rattle.gixobj_editor_open.specs.Paths.{names_of}
use Rattle.gixobj_editor_open.specs.Descents.{IsDescended}
use Rattle.gixobj_editor_lookups.proofs.below.enter_all.Given as goal

abbrev pub invariant-loop-name : goal.invariant-loop-name
invariant-loop-name l = IsDescended (names_of (take l.name-index l.path)) l.fn.node l.node l.above

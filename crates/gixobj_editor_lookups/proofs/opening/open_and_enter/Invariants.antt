use Rattle.std.proofs.Common.{◌≡◌, take}
use Rattle.gixobj_editor_open.specs.Paths.{names_of}
use Rattle.gixobj_editor_lookups.proofs.OpeningDescents.{ComesAlong}
use Rattle.gixobj_editor_lookups.proofs.opening.open_and_enter.Given as goal

abbrev pub invariant-loop-name : goal.invariant-loop-name
invariant-loop-name g l = record {
  count : l.depth ≡ l.name-index;
  along : ComesAlong (g.S.Store.objects l.store) l.not_looked_up (names_of (take l.name-index l.path)) l.fn.node l.node l.above l.fn.lookups l.lookups;
}

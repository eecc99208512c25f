use Rattle.std.proofs.Common.{◌≡◌, take}
use Rattle.gixobj_editor_open.specs.Paths.{names_of}
use Rattle.gixobj_editor_open.specs.Descents.{IsDescended}
use Rattle.gixobj_editor_open.proofs.open.Open.enter.Given as goal

abbrev pub invariant-loop-name : goal.invariant-loop-name
invariant-loop-name l = record {
  count : l.depth ≡ l.name-index;
  descended : IsDescended (names_of (take l.name-index l.path)) l.fn.self l.self l.above;
}

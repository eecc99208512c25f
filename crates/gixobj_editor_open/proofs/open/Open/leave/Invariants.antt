use Rattle.std.proofs.Common.{◌≡◌, length}
use Rattle.std.specs.Prelude.{reverse}
use Rattle.gixobj_editor_open.specs.Paths.{names_of}
use Rattle.gixobj_editor_open.specs.Descents.{AreAbove, rebuilt}
use Rattle.gixobj_editor_open.proofs.open.Open.leave.Given as goal

abbrev pub invariant-names : goal.invariant-names
invariant-names l = record {
  same : rebuilt (reverse (names_of l.remaining)) l.above l.self ≡ rebuilt (reverse (names_of l.path)) l.fn.above l.fn.self;
  are_above : AreAbove (reverse (names_of l.remaining)) l.above;
}

abbrev pub decreases-names : goal.decreases-names
decreases-names l = length l.remaining

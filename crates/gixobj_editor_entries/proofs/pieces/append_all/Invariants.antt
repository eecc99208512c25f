-- The items so far and those of the remaining pieces are the items of all pieces.
use Rattle.std.proofs.Common.{◌≡◌, ◌≤◌, ◌++◌, drop}
use Rattle.std.specs.Prelude.{vec_capacity}
use Rattle.std.specs.List.{flat_map}
use Rattle.gixobj_editor_entries.specs.Pieces.{joined}
use Rattle.gixobj_editor_entries.proofs.pieces.append_all.Given as goal

abbrev pub invariant-loop-piece : goal.invariant-loop-piece
invariant-loop-piece g l = record {
  moved : l.first.items ++ flat_map (λ p. p.items) (drop l.piece-index l.more) ≡ joined (λ p. p.items) l.fn.first.items l.fn.more;
  capacity : vec_capacity l.fn.first ≤ vec_capacity l.first;
}

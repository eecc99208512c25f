-- The number of pieces is between the bounds, and so is the next position.
use Rattle.std.proofs.Common.{◌<◌, ◌≤◌, ◌-◌, length}
use Rattle.gixobj_tree_entries.specs.KeyOrder.{key_of}
use Rattle.gixobj_editor_entries.specs.Pieces.{item_key, pieces_at_most}
use Rattle.gixobj_editor_entries.proofs.search.piece_of.Given as goal

abbrev pub invariant-loop-low : goal.invariant-loop-low
invariant-loop-low g l =
    record {
      ordered : l.low ≤ l.high;
      within : l.high ≤ length l.more;
      next : l.low < l.high → (l.low ≤ l.middle) × (l.middle < l.high);
      minimum : l.low ≤ pieces_at_most (item_key g.T.Named.name_of g.T.Named.is_tree_of) (key_of l.name l.is_tree) (λ p. p.items) l.more;
      maximum : pieces_at_most (item_key g.T.Named.name_of g.T.Named.is_tree_of) (key_of l.name l.is_tree) (λ p. p.items) l.more ≤ l.high;
    }

abbrev pub decreases-loop-low : goal.decreases-loop-low
decreases-loop-low g l = l.high - l.low

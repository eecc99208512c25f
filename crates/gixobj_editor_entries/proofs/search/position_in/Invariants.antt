-- An item with the key can be at the remaining positions alone, and the next comparison is at one of these.
use Rattle.std.proofs.Common.{◌<◌, ◌≤◌, ◌-◌, length}
use Rattle.gixobj_tree_entries.specs.KeyOrder.{key_of}
use Rattle.gixobj_editor_entries.specs.Pieces.{item_key}
use Rattle.gixobj_editor_entries.proofs.BinarySearch.{IsNarrowed}
use Rattle.gixobj_editor_entries.proofs.search.position_in.Given as goal

abbrev pub invariant-loop-low : goal.invariant-loop-low
invariant-loop-low g l =
    record {
      ordered : l.low ≤ l.high;
      within : l.high ≤ length l.items;
      next : l.low < l.high → (l.low ≤ l.middle) × (l.middle < l.high);
      narrowed : IsNarrowed (item_key g.T.Named.name_of g.T.Named.is_tree_of) l.items (key_of l.name l.is_tree) l.low l.high;
    }

abbrev pub decreases-loop-low : goal.decreases-loop-low
decreases-loop-low g l = l.high - l.low

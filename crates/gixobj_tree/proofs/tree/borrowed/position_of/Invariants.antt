-- The name can be only among the remaining entries.
use Rattle.std.proofs.Common.{◌≤◌, ◌-◌, length}
use Rattle.gixobj_tree_entries.specs.EntryViews.{entry_view}
use Rattle.gixobj_tree.proofs.BinarySearch.{IsNarrowed, compared}
use Rattle.gixobj_tree.proofs.tree.borrowed.position_of.Given as goal

abbrev pub invariant-loop-low : goal.invariant-loop-low
invariant-loop-low l =
    record {
      ordered : l.low ≤ l.high;
      within : l.high ≤ length l.entries;
      narrowed : IsNarrowed (compared entry_view l.name l.is_dir) l.entries l.low l.high;
    }

abbrev pub decreases-loop-low : goal.decreases-loop-low
decreases-loop-low l = l.high - l.low

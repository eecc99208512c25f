-- The entries before the current one are copied.
use Rattle.std.proofs.Common.{◌≡◌, take, map}
use Rattle.gixobj_tree.proofs.tree.borrowed.TreeRef.to_owned.Given as goal
use Rattle.gixobj_tree_entries.specs.EntryViews.{entry_view}

abbrev pub invariant-loop-entry : goal.invariant-loop-entry
invariant-loop-entry l = (l.entries.items ≡ take l.entry-index (map entry_view l.entry-items)) × (l.entry-items ≡ l.self.entries.items)

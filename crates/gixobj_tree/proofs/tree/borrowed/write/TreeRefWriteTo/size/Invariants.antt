use Rattle.std.proofs.Common.{◌≡◌, ◌<◌, ◌^◌, take, length, map}
use Rattle.gixobj_tree.specs.TreeEncoding.{encode_tree}
use Rattle.gixobj_tree.proofs.tree.borrowed.write.TreeRefWriteTo.size.Given as goal
use Rattle.gixobj_tree_entries.specs.EntryViews.{entry_view}

abbrev pub invariant-loop-entry : goal.invariant-loop-entry
invariant-loop-entry l = (l.size ≡ length (encode_tree (take l.entry-index (map entry_view l.entry-items)))) × (l.entry-items ≡ l.self.entries.items)
    × (l.size < 2 ^ 64)

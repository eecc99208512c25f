-- The lines of the entries before the current one.
use Rattle.std.proofs.Common.{◌≡◌, map, take}
use Rattle.gixobj_cli_tree.specs.Listing.{listing_of}
use Rattle.gixobj_tree_entries.specs.EntryViews.{entry_view}
use Rattle.gixobj_cli_tree.proofs.tree.lines.Given as goal

abbrev pub invariant-loop-entry : goal.invariant-loop-entry
invariant-loop-entry l = l.listed_lines.items ≡ listing_of (map entry_view (take l.entry-index l.entry-items))

-- The view of a borrowed tree, and that of its entries.
use Rattle.std.specs.Prelude.{List, map}
use Rattle.gixobj_tree_entries.specs.Entries.{EntryView}
pub use Rattle.gixobj_tree_entries.specs.EntryViews.{entry_view}
use Rattle.gixobj_tree.specs.declared.tree.borrowed.TreeRef.{TreeRef}

-- the view of a borrowed tree: its entries
abbrev pub tree_entries : TreeRef → List EntryView
tree_entries tree = map entry_view tree.entries.items

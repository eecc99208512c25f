use Rattle.std.proofs.Common.{◌∙◌}
use Rattle.gixobj_tree_entries.specs.EntryOrder.{entry_cmp}
use Rattle.gixobj_tree.proofs.Viewed.{slice_cmp_map_view}
use Rattle.gixobj_tree.proofs.tree.borrowed.compared.TreeRefOrd.cmp.Goals as goal
use Rattle.gixobj_tree_entries.specs.EntryViews.{entry_view}

pub returns : goal.returns
returns c = c.cmp.ensures ∙ slice_cmp_map_view entry_view entry_cmp c.args.self.now.entries.items c.args.other.now.entries.items

use Rattle.std.proofs.lemmas.List.{length-map}
use Rattle.std.proofs.lemmas.List.Folds.{flat_map-map}
use Rattle.gixobj_tree_entries.specs.EntryOrder.{entry_feed}
use Rattle.gixobj_tree.proofs.tree.borrowed.compared.TreeRefHash.hash.Goals as goal
use Rattle.gixobj_tree_entries.specs.EntryViews.{entry_view}

pub returns : goal.returns
returns g c = rw (length-map c.args.self.now.entries.items entry_view, flat_map-map entry_feed entry_view c.args.self.now.entries.items) c.hash.ensures

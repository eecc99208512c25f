use Rattle.std.proofs.Common.{◌∙◌}
use Rattle.gixobj_tree.proofs.Viewed.{take_map_view_snoc}
use Rattle.gixobj_tree.proofs.tree.borrowed.TreeRef.to_owned.Goals as goal
use Rattle.gixobj_tree_entries.specs.EntryViews.{entry_view}

pub loop-entry-preserved : goal.loop-entry-preserved
loop-entry-preserved c = (
  c.in_ok-push.ensures.items ∙ take_map_view_snoc entry_view c.deref-entry-items.result.now c.loop-entry.entry-index c.entry-item.result
      c.loop-entry.entries.items
      c.in_ok-into_owned.field-0
      c.loop-entry-test.true c.entry-item.is c.loop-entry.invariant.0 c.in_ok-into_owned.ensures,
  c.loop-entry.invariant.1,
)

-- A prefix of the encoding is too long already.
use Rattle.std.proofs.Common.{ap, map}
use Rattle.gixobj_tree.proofs.TreeWrites.{no_overflow_of_tree}
use Rattle.gixobj_tree.proofs.Viewed.{map_view_at, map_view_index_lt}
use Rattle.gixobj_tree.proofs.WrittenTrees.{encode_tree_len_take_succ}
use Rattle.gixobj_tree.proofs.tree.borrowed.write.TreeRefWriteTo.size.Goals as goal
use Rattle.gixobj_tree_entries.specs.EntryViews.{entry_view}

pub returns-in_err-size : goal.returns-in_err-size
returns-in_err-size c =
    let items = c.deref-entry-items.result.now in
    let low = map_view_index_lt entry_view items c.loop-entry.entry-index c.loop-entry-test.true in
    let here = map_view_at entry_view items c.loop-entry.entry-index c.entry-item.result c.loop-entry-test.true c.entry-item.is in
    rw c.from_residual.ensures (no_overflow_of_tree (map entry_view items) _ c.loop-entry.entry-index (entry_view c.entry-item.result) c.loop-entry.size
    (ap (map entry_view) c.loop-entry.invariant.1) low here c.loop-entry.invariant.0 c.in_err-size.ensures)

pub loop-entry-preserved : goal.loop-entry-preserved
loop-entry-preserved c = (
  encode_tree_len_take_succ entry_view c.deref-entry-items.result.now c.loop-entry.entry-index c.entry-item.result c.loop-entry.size c.in_ok-size.size
      c.loop-entry-test.true c.entry-item.is c.loop-entry.invariant.0 c.in_ok-size.ensures.1,
  c.loop-entry.invariant.1,
  rw
      (c.in_ok-size.ensures.1) c.in_ok-size.ensures.0,
)

-- A prefix of the encoding is too long already.
use Rattle.std.proofs.Common.{◌∙◌, ap, arith, length, sym}
use Rattle.gixobj_hash.specs.Hash.{id_bytes}
use Rattle.gixobj_tree.proofs.TreeWrites.{no_overflow_of_size, tree_len_take_succ}
use Rattle.gixobj_tree.proofs.tree.write.TreeWriteTo.size.Goals as goal
use Rattle.gixobj_tree_entries.specs.Entries.{EntryView}

pub loop-entry-preserved : goal.loop-entry-preserved
loop-entry-preserved c = (
  tree_len_take_succ c.deref-entry-items.result.now c.loop-entry.entry-index c.entry-item.result c.loop-entry.size c.in_ok-size.size c.loop-entry.longer
      c.longer_one-longer.result c.loop-entry-test.true c.entry-item.is c.loop-entry.invariant.0 c.in_ok-size.ensures.1
      (ap (λ (e : EntryView). length (id_bytes e.id)) (sym c.entry.view_is) ∙ c.longer_one-longer.ensures.len),
  omega (arith, c.longer_one-longer.ensures.bounded, c.loop-entry.invariant.1),
  c.loop-entry.invariant.2,
  rw (c.in_ok-size.ensures.1) c.in_ok-size.ensures.0,
)

pub returns-in_err-size : goal.returns-in_err-size
returns-in_err-size c =
    rw c.from_residual.ensures
    (no_overflow_of_size c.deref-entry-items.result.now _ c.loop-entry.entry-index c.entry-item.result c.loop-entry.size c.loop-entry.longer
    c.loop-entry.invariant.2
    c.loop-entry-test.true c.entry-item.is c.loop-entry.invariant.0 c.in_err-size.ensures)

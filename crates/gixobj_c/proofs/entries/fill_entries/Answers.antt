-- Each step adds one entry.
use Rattle.gixobj_c.proofs.ConsecutiveEntries.{entry_of_done, filled_next}
use Rattle.gixobj_c.proofs.entries.fill_entries.Goals as goal

pub loop-filled-preserved : goal.loop-filled-preserved
loop-filled-preserved c = filled_next _ _ _ c.loop-filled.next c.loop-filled.filled c.loop-filled.out _ _ c.loop-filled.invariant.0 c.loop-filled.invariant.1
    c.loop-filled-test.true (entry_of_done _ _ _ _ _ _ c.entry_or_end-status.ensures c.if-status-ne-DONE.false)

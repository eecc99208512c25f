-- The elements before `filled` are entries, and the others are unchanged.
use Rattle.std.proofs.Common.{◌≡◌, ◌≤◌, ◌-◌, drop, length, take}
use Rattle.gixobj_c.specs.Entries.{AreEntriesFrom}
use Rattle.gixobj_c.proofs.entries.fill_entries.Given as goal

abbrev pub invariant-loop-filled : goal.invariant-loop-filled
invariant-loop-filled l = AreEntriesFrom l.fn.hash l.fn.tree l.fn.offset (take l.filled l.out) l.next × (drop l.filled l.out ≡ drop l.filled l.fn.out)
    × (l.filled ≤ length l.out)

abbrev pub decreases-loop-filled : goal.decreases-loop-filled
decreases-loop-filled l = length l.out - l.filled

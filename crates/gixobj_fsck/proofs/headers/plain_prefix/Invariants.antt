use Rattle.std.proofs.Common.{◌≤◌, ◌-◌, length}
use Rattle.gixobj_fsck.specs.Headers.{IsPlainBetween}
use Rattle.gixobj_fsck.proofs.headers.plain_prefix.Given as goal

abbrev pub invariant-loop-from : goal.invariant-loop-from
invariant-loop-from l = (l.from ≤ length l.input) × IsPlainBetween l.input 0 l.from

abbrev pub decreases-loop-from : goal.decreases-loop-from
decreases-loop-from l = length l.input - l.from

use Rattle.std.proofs.Common.{◌≡◌, ◌+◌, length}
use Rattle.gixobj_editor_open.proofs.dropping.merge.Given as goal

-- the directories in `current` and those that wait are all
abbrev pub invariant-loop-inner : goal.invariant-loop-inner
invariant-loop-inner l = length l.current + length l.waiting ≡ length l.fn.directory + length l.fn.waiting

abbrev pub decreases-loop-inner : goal.decreases-loop-inner
decreases-loop-inner l = length l.current

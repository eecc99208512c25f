-- The edits before the current one are done.
use Rattle.std.proofs.Common.{take}
use Rattle.gixobj_c_edit.specs.Replies.{AreDone}
use Rattle.gixobj_c_edit.proofs.replies.first_failure.Given as goal

abbrev pub invariant-loop-index : goal.invariant-loop-index
invariant-loop-index l = AreDone (take l.index l.replies)

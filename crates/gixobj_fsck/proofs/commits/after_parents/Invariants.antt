use Rattle.std.proofs.Common.{length, ℕ, List}
use Rattle.std.specs.Prelude.{Result}
use Rattle.gixobj_fsck.specs.Commits.{ParentLines}
use Rattle.gixobj_fsck_messages.specs.declared.message.Message.{Message}
use Rattle.gixobj_fsck.proofs.commits.after_parents.Given as goal

abbrev pub invariant-loop-after : goal.invariant-loop-after
invariant-loop-after l = (outcome : Result (List ℕ) Message) → ParentLines l.kind l.rest outcome → ParentLines l.kind l.input outcome

abbrev pub decreases-loop-after : goal.decreases-loop-after
decreases-loop-after l = length l.rest

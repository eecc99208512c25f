use Rattle.gixobj_fsck_messages.proofs.Worst.{IsWorstBefore}
use Rattle.gixobj_fsck_messages.proofs.set.Messages.worst.Given as goal

abbrev pub invariant-loop-message : goal.invariant-loop-message
invariant-loop-message l = IsWorstBefore l.strict l.fn.self l.rest l.worst

abbrev pub decreases-loop-message : goal.decreases-loop-message
decreases-loop-message l = l.rest.bits

use Rattle.std.proofs.Common.{length}
use Rattle.gixobj_fsck.specs.Commits.{MoreAuthors}
use Rattle.gixobj_fsck_messages.specs.declared.message.Message.{Message}
use Rattle.gixobj_fsck.proofs.commits.fault_of_more_authors.Given as goal

abbrev pub invariant-loop-actor : goal.invariant-loop-actor
invariant-loop-actor l = (fault : Message) → MoreAuthors l.rest fault → MoreAuthors l.input fault

abbrev pub decreases-loop-actor : goal.decreases-loop-actor
decreases-loop-actor l = length l.rest

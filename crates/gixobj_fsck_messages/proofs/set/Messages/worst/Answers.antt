use Rattle.std.proofs.Common.{subst}
use Rattle.gixobj_fsck_messages.specs.Severities.{IsWorse}
use Rattle.gixobj_fsck_messages.specs.declared.severity.Severity.{Severity}
use Rattle.gixobj_fsck_messages.proofs.Worst.{worst_of_more}
use Rattle.gixobj_fsck_messages.proofs.set.Messages.worst.Goals as goal

pub loop-message-preserved : goal.loop-message-preserved
loop-message-preserved c =
    worst_of_more c.args.strict c.args.self c.loop-message.rest c.remove.new.self c.in-Some.message c.loop-message.worst c.worse.result
    c.loop-message.invariant c.in-Some.ensures c.remove.ensures.removed
    (subst (λ (s : Severity). IsWorse c.loop-message.worst s c.worse.result) c.severity.ensures c.worse.ensures)

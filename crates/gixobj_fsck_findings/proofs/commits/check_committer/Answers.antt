use Rattle.std.proofs.Common.{inr}
use Rattle.gixobj_fsck_messages.specs.Options.{severity_by}
use Rattle.gixobj_fsck_findings.specs.Checks.{offset_of}
use Rattle.gixobj_fsck_findings.specs.CommitChecks.{CommitterCheck}
use Rattle.gixobj_fsck_findings.specs.LineChecks.{ActorCheck}
use Rattle.gixobj_fsck_findings.proofs.Steps.{if_ok}
use Rattle.gixobj_fsck_findings.proofs.commits.check_committer.Goals as goal

pub returns-in-Some : goal.returns-in-Some
returns-in-Some c =
    if_ok c.check_actor.result
    (ActorCheck (severity_by c.args.options.now) (offset_of c.args.commit.now c.args.input.now) c.in-Some.committer.now
    c.args.findings.now.items c.check_actor.new.findings.items)
    (CommitterCheck (severity_by c.args.options.now) c.args.commit.now c.args.input.now c.args.findings.now.items c.check_actor.new.findings.items)
    (λ rest here. inr (c.in-Some.committer.now, c.in-Some.ensures.found, here)) c.check_actor.ensures

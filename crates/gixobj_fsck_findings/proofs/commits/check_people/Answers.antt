use Rattle.std.proofs.Common.{inl, inr, refl, None}
use Rattle.gixobj_fsck_messages.specs.Options.{severity_by}
use Rattle.gixobj_fsck_findings.specs.CommitChecks.{PeopleCheck, ZeroCheck}
use Rattle.gixobj_fsck_findings.proofs.Steps.{if_done}
use Rattle.gixobj_fsck_findings.proofs.commits.check_people.Goals as goal

pub returns-in_default : goal.returns-in_default
returns-in_default c = inl (rw c.in_default.is at c.in_ok-committer.ensures, refl)

pub returns-in_default-2 : goal.returns-in_default-2
returns-in_default-2 c =
    inr (
      c.in-Some.committer.now,
      c.check_authors.new.findings.items,
      rw c.in-Some.is at c.in_ok-committer.ensures,
      inl (rw c.in_default-2.is at c.in_ok-check_committer.ensures, refl),
    )

pub returns : goal.returns
returns c =
    if_done c.check_zero.result
    (ZeroCheck (severity_by c.args.options.now) c.args.commit.now c.args.commit.now c.check_committer.new.findings.items
    c.check_zero.new.findings.items None)
    (PeopleCheck (severity_by c.args.options.now) c.args.commit.now c.args.input.now c.args.findings.now.items c.check_zero.new.findings.items None)
    (λ here. inr (
      c.in-Some.committer.now,
      c.check_authors.new.findings.items,
      rw c.in-Some.is at c.in_ok-committer.ensures,
      inr (
        c.in-Some-2.field-0.now,
        c.check_committer.new.findings.items,
        rw c.in-Some-2.is at c.in_ok-check_committer.ensures,
        here,
      ),
    )) c.check_zero.ensures

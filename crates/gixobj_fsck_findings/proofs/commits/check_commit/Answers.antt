use Rattle.std.proofs.Common.{inl, inr, refl, None}
use Rattle.gixobj_fsck_messages.specs.Options.{severity_by}
use Rattle.gixobj_fsck_findings.specs.CommitChecks.{CommitCheck, PeopleCheck}
use Rattle.gixobj_fsck_findings.proofs.Steps.{if_done}
use Rattle.gixobj_fsck_findings.proofs.commits.check_commit.Goals as goal

pub returns-in_default-2 : goal.returns-in_default-2
returns-in_default-2 c =
    inr (
      c.in-Some.start.now,
      c.check_header.new.findings.items,
      rw c.in-Some.is at c.in_ok-start.ensures,
      inl (rw c.in_default-2.is at c.in_ok-parents.ensures, refl),
    )

pub returns-in_default-3 : goal.returns-in_default-3
returns-in_default-3 c =
    inr (
      c.in-Some.start.now,
      c.check_header.new.findings.items,
      rw c.in-Some.is at c.in_ok-start.ensures,
      inr (
        c.in-Some-2.parents.now,
        c.check_id_line.new.findings.items,
        rw c.in-Some-2.is at c.in_ok-parents.ensures,
        inl (rw c.in_default-3.is at c.in_ok-authors.ensures, refl),
      ),
    )

pub returns : goal.returns
returns c =
    if_done c.check_people.result
    (PeopleCheck (severity_by c.args.options.now) c.args.commit.now c.in-Some-3.authors.now c.check_parents.new.findings.items
    c.check_people.new.findings.items None)
    (CommitCheck (severity_by c.args.options.now) c.args.kind c.args.commit.now c.args.commit.now c.args.findings.now.items
    c.check_people.new.findings.items None)
    (λ here. inr (
      c.in-Some.start.now,
      c.check_header.new.findings.items,
      rw c.in-Some.is at c.in_ok-start.ensures,
      inr (
        c.in-Some-2.parents.now,
        c.check_id_line.new.findings.items,
        rw c.in-Some-2.is at c.in_ok-parents.ensures,
        inr (
          c.in-Some-3.authors.now,
          c.check_parents.new.findings.items,
          rw c.in-Some-3.is at c.in_ok-authors.ensures,
          here,
        ),
      ),
    )) c.check_people.ensures

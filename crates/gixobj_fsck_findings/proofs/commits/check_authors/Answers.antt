use Rattle.std.proofs.Common.{inl, inr, refl}
use Rattle.gixobj_fsck_messages.specs.Options.{severity_by}
use Rattle.gixobj_fsck_findings.specs.CommitChecks.{AuthorsCheck, MoreAuthorsCheck}
use Rattle.gixobj_fsck_findings.proofs.Steps.{if_ok}
use Rattle.gixobj_fsck_findings.proofs.commits.check_authors.Goals as goal

pub returns-in_default-2 : goal.returns-in_default-2
returns-in_default-2 c = inr (inl ((c.in-Some.author.now, c.in-Some.ensures.found, rw c.in_default-2.is at c.in_ok-more.ensures), refl))

pub returns : goal.returns
returns c =
    if_ok c.check_more_authors.result
    (MoreAuthorsCheck (severity_by c.args.options.now) c.args.commit.now c.in-Some-2.more.now c.check_actor.new.findings.items
    c.check_more_authors.new.findings.items)
    (AuthorsCheck (severity_by c.args.options.now) c.args.commit.now c.args.input.now c.args.findings.now.items
    c.check_more_authors.new.findings.items)
    (λ rest here. inr (inr (
      c.in-Some-2.more.now,
      c.check_actor.new.findings.items,
      (c.in-Some.author.now, c.in-Some.ensures.found, rw c.in-Some-2.is at c.in_ok-more.ensures),
      here,
    ))) c.check_more_authors.ensures

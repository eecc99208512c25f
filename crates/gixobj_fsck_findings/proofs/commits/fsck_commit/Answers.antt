use Rattle.gixobj_fsck_messages.specs.Options.{severity_by}
use Rattle.gixobj_fsck_findings.proofs.CleanObjects.{no_commit_findings}
use Rattle.gixobj_fsck_findings.proofs.commits.fsck_commit.Goals as goal

pub returns-clause-found : goal.returns-clause-found
returns-clause-found c = rw c.new-findings.ensures.items at c.in_ok-check_commit.ensures

pub returns-then-is_clean_commit-clause-found : goal.returns-then-is_clean_commit-clause-found
returns-then-is_clean_commit-clause-found c = rw c.new-findings.ensures.items
    (no_commit_findings (severity_by c.args.options.now) c.args.kind c.args.commit.now c.if-is_clean_commit.ensures)

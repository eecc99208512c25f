use Rattle.gixobj_fsck_findings.specs.CommitChecks.{next_parent, no_parent}
use Rattle.gixobj_fsck_findings.proofs.commits.after_parents.Goals as goal

pub loop-after-preserved : goal.loop-after-preserved
loop-after-preserved c = λ line follows. c.loop-after.invariant line (next_parent _ _ _ line c.in-Some.ensures.found follows)

pub returns-clause-lines : goal.returns-clause-lines
returns-clause-lines c = c.loop-after.invariant _ (no_parent _)

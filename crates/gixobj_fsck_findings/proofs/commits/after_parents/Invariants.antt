use Rattle.std.proofs.Common.{length, ℕ, List}
use Rattle.gixobj_fsck_findings.specs.CommitChecks.{FollowsParents}
use Rattle.gixobj_fsck_findings.proofs.commits.after_parents.Given as goal

abbrev pub invariant-loop-after : goal.invariant-loop-after
invariant-loop-after l = (line : List ℕ) → FollowsParents l.kind l.rest line → FollowsParents l.kind l.input line

abbrev pub decreases-loop-after : goal.decreases-loop-after
decreases-loop-after l = length l.rest

use Rattle.std.proofs.Common.{length, ℕ, List, Option}
use Rattle.gixobj_fsck_messages.specs.Options.{severity_by}
use Rattle.gixobj_fsck_messages.specs.declared.finding.Finding.{Finding}
use Rattle.gixobj_fsck_findings.specs.CommitChecks.{AuthorLines}
use Rattle.gixobj_fsck_findings.proofs.commits.check_author_lines.Given as goal

abbrev pub invariant-loop-actor : goal.invariant-loop-actor
invariant-loop-actor l = (after : List Finding) (outcome : Option (List ℕ))
    → AuthorLines (severity_by l.options) l.commit l.rest l.findings.items after outcome
    → AuthorLines (severity_by l.options) l.commit l.input l.fn.findings.items after outcome

abbrev pub decreases-loop-actor : goal.decreases-loop-actor
decreases-loop-actor l = length l.rest

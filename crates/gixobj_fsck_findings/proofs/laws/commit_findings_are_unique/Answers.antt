use Rattle.gixobj_fsck_messages.specs.Options.{severity_by}
use Rattle.gixobj_fsck_findings.proofs.UniqueCommits.{commit_findings_unique}
use Rattle.gixobj_fsck_findings.proofs.laws.commit_findings_are_unique.Goals as goal

pub returns : goal.returns
returns c = commit_findings_unique (severity_by c.args.options.now) c.args.kind c.args.commit.now

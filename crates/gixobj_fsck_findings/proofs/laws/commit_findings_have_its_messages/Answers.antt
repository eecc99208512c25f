use Rattle.gixobj_fsck_messages.specs.Options.{severity_by}
use Rattle.gixobj_fsck_findings.proofs.CommitLists.{commit_lists}
use Rattle.gixobj_fsck_findings.proofs.laws.commit_findings_have_its_messages.Goals as goal

pub returns : goal.returns
returns c = commit_lists c.args.strict (severity_by c.args.options.now) c.args.kind c.args.commit.now

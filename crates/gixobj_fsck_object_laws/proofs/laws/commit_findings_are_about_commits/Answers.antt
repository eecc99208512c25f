use Rattle.gixobj_fsck_messages.specs.Options.{severity_by}
use Rattle.gixobj_fsck_object_laws.proofs.AboutCommits.{have_messages_of_commits}
use Rattle.gixobj_fsck_object_laws.proofs.laws.commit_findings_are_about_commits.Goals as goal

pub returns : goal.returns
returns c = have_messages_of_commits (severity_by c.args.options.now) c.args.kind c.args.commit.now

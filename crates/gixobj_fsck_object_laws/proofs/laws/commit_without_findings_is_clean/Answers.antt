use Rattle.gixobj_fsck_messages.specs.Options.{severity_by}
use Rattle.gixobj_fsck_object_laws.proofs.CleanCommits.{clean_of_no_findings}
use Rattle.gixobj_fsck_object_laws.proofs.laws.commit_without_findings_is_clean.Goals as goal

pub returns : goal.returns
returns c = clean_of_no_findings c.args.strict (severity_by c.args.options.now) c.args.kind c.args.commit.now c.is_clean_commit.result c.is_clean_commit.ensures

use Rattle.gixobj_fsck_messages.specs.Options.{severity_by}
use Rattle.gixobj_fsck_findings.proofs.UniqueTags.{tag_findings_unique}
use Rattle.gixobj_fsck_findings.proofs.laws.tag_findings_are_unique.Goals as goal

pub returns : goal.returns
returns c = tag_findings_unique (severity_by c.args.options.now) c.args.kind c.args.tag.now

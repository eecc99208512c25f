use Rattle.gixobj_fsck_messages.specs.Options.{severity_by}
use Rattle.gixobj_fsck_findings.proofs.TagLists.{tag_lists}
use Rattle.gixobj_fsck_findings.proofs.laws.tag_findings_have_its_messages.Goals as goal

pub returns : goal.returns
returns c = tag_lists c.args.strict (severity_by c.args.options.now) c.args.kind c.args.tag.now

use Rattle.gixobj_fsck_messages.specs.Options.{severity_by}
use Rattle.gixobj_fsck_object_laws.proofs.AboutTags.{have_messages_of_tags}
use Rattle.gixobj_fsck_object_laws.proofs.laws.tag_findings_are_about_tags.Goals as goal

pub returns : goal.returns
returns c = have_messages_of_tags (severity_by c.args.options.now) c.args.kind c.args.tag.now

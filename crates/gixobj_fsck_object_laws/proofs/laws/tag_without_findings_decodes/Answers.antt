use Rattle.gixobj_fsck_messages.specs.Options.{severity_by}
use Rattle.gixobj_fsck_object_laws.proofs.CleanTags.{tag_of_no_findings}
use Rattle.gixobj_fsck_object_laws.proofs.laws.tag_without_findings_decodes.Goals as goal

pub returns : goal.returns
returns c = tag_of_no_findings c.args.strict (severity_by c.args.options.now) c.args.kind c.args.tag.now c.is_clean_tag.result c.is_clean_tag.ensures

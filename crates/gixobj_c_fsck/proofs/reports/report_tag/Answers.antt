-- Git accepts a tag without an error, and one with an extra header.
use Rattle.gixobj_c_fsck.proofs.Verdicts.{report_of_messages}
use Rattle.gixobj_c_fsck.proofs.reports.report_tag.Goals as goal
use Rattle.gixobj_hash.specs.declared.kind.Kind.TheVariants as kind

pub returns : goal.returns
returns c =
    report_of_messages c.args.strict c.args.hash kind.Tag c.args.bytes.now c.tag_messages-messages.result c.accepts_tag-is_accepted.result
    c.report_messages.result c.tag_messages-messages.ensures c.accepts_tag-is_accepted.ensures c.report_messages.ensures

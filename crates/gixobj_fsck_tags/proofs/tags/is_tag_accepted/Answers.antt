use Rattle.std.proofs.lemmas.Bool.{false≢true}
use Rattle.gixobj_fsck_tags.proofs.TagMessages.{accepted_without_extra}
use Rattle.gixobj_fsck_tags.proofs.tags.is_tag_accepted.Goals as goal

pub returns-else-has_extra_header : goal.returns-else-has_extra_header
returns-else-has_extra_header c = accepted_without_extra c.has_error.result c.args.strict c.args.kind c.args.tag.now c.tag_messages.result
    (λ extra. false≢true (c.if-has_extra_header.ensures.1 extra)) c.tag_messages.ensures c.has_error.ensures

use Rattle.gixobj_codec.proofs.ReceivedTags.{signs_tag}
use Rattle.gixobj_codec.proofs.received.received_tags_are_signed.Goals as goal

pub returns : goal.returns
returns c kind content tag signature signed format is has =
    signs_tag kind content tag is signature signed format has (c.tag_reencodes_identically.ensures.same_bytes kind content tag is)
    (c.tag_recognition_agrees.ensures.decodes kind signed)

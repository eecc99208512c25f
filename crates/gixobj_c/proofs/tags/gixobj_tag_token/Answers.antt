-- The rest is at the end of the tag.
use Rattle.gixobj_c.proofs.TagParts.{rest_of_token}
use Rattle.gixobj_c.proofs.tags.gixobj_tag_token.Goals as goal

pub offset_of-requires : goal.offset_of-requires
offset_of-requires c = rest_of_token _ _ _ _ _ _ _ _ c.bytes_from-input.ensures c.in-Some-decode_token.ensures.found

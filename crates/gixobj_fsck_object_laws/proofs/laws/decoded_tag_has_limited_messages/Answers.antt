use Rattle.gixobj_fsck_object_laws.proofs.DecodedTags as law
use Rattle.gixobj_fsck_object_laws.proofs.laws.decoded_tag_has_limited_messages.Goals as goal

pub returns : goal.returns
returns c = law.limited_messages

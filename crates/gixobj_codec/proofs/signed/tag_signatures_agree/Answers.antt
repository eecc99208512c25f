use Rattle.gixobj_codec.proofs.TagsAgree.{tag_signatures_are_same}
use Rattle.gixobj_codec.proofs.signed.tag_signatures_agree.Goals as goal

pub returns : goal.returns
returns c = tag_signatures_are_same

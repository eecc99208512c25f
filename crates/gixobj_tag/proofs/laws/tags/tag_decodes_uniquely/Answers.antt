use Rattle.gixobj_tag.proofs.EntireTags.{tag_unique}
use Rattle.gixobj_tag.proofs.laws.tags.tag_decodes_uniquely.Goals as goal

pub returns : goal.returns
returns c = tag_unique

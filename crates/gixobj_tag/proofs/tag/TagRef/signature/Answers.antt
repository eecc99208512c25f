use Rattle.std.proofs.Common.{rules}
use Rattle.gixobj_tag.proofs.tag.TagRef.signature.Goals as goal

pub returns : goal.returns
returns c = search rules

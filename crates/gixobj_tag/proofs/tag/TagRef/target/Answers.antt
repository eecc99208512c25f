use Rattle.std.proofs.Common.{rules}
use Rattle.gixobj_tag.proofs.tag.TagRef.target.Goals as goal

pub returns : goal.returns
returns c = search rules

use Rattle.std.proofs.Common.{rules}
use Rattle.gixobj_tag.proofs.tag.sign.with_newline.Goals as goal

pub returns : goal.returns
returns c = search rules

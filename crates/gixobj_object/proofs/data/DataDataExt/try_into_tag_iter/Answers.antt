use Rattle.std.proofs.Common.{rules}
use Rattle.gixobj_object.proofs.data.DataDataExt.try_into_tag_iter.Goals as goal

pub returns-in_default : goal.returns-in_default
returns-in_default c = search rules

use Rattle.std.proofs.Common.{rules}
use Rattle.gixobj_tag.proofs.tag.write.write_name.Goals as goal

pub returns-clause-valid : goal.returns-clause-valid
returns-clause-valid c = search rules

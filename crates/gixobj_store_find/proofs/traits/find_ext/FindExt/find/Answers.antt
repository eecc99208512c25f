use Rattle.std.proofs.Common.{rules}
use Rattle.gixobj_store_find.proofs.traits.find_ext.FindExt.find.Goals as goal

pub returns-in-None-clause-error : goal.returns-in-None-clause-error
returns-in-None-clause-error g c = search rules

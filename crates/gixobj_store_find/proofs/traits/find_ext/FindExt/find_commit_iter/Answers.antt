use Rattle.std.proofs.Common.{rules}
use Rattle.gixobj_store_find.proofs.traits.find_ext.FindExt.find_commit_iter.Goals as goal

pub returns-in-Some-clause-found : goal.returns-in-Some-clause-found
returns-in-Some-clause-found g c = search rules

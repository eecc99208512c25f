use Rattle.std.proofs.Common.{rules}
use Rattle.gixobj_store_find.proofs.find.never.NeverFind.try_find.Goals as goal

pub returns-clause-none : goal.returns-clause-none
returns-clause-none c = search rules

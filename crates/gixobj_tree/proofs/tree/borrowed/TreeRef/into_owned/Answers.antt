use Rattle.std.proofs.Common.{rules}
use Rattle.gixobj_tree.proofs.tree.borrowed.TreeRef.into_owned.Goals as goal

pub returns-clause-owned : goal.returns-clause-owned
returns-clause-owned c = search rules

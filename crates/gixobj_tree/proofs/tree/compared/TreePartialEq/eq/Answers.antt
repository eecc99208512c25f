use Rattle.std.proofs.Common.{rules}
use Rattle.gixobj_tree.proofs.tree.compared.TreePartialEq.eq.Goals as goal

pub returns : goal.returns
returns c = search rules

use Rattle.std.proofs.Common.{rules}
use Rattle.gixobj_tree.proofs.tree.compared.TreeOrd.cmp.Goals as goal

pub returns : goal.returns
returns c = search rules

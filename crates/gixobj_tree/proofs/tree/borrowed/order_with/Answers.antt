use Rattle.std.proofs.Common.{rules}
use Rattle.gixobj_tree.proofs.tree.borrowed.order_with.Goals as goal

pub returns : goal.returns
returns c = search rules

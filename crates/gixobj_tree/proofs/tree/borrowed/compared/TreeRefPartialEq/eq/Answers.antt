use Rattle.std.proofs.Common.{arith}
use Rattle.std.proofs.lemmas.Grind.{common_steps}
use Rattle.gixobj_tree.proofs.Viewed.{same_tree_map_view}
use Rattle.gixobj_tree.proofs.tree.borrowed.compared.TreeRefPartialEq.eq.Goals as goal

pub returns : goal.returns
returns c = grind (arith, common_steps, same_tree_map_view)

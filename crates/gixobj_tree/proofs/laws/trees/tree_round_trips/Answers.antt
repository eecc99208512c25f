use Rattle.gixobj_tree.proofs.WrittenTrees as law
use Rattle.gixobj_tree.proofs.laws.trees.tree_round_trips.Goals as goal

pub returns : goal.returns
returns c = law.encode_tree_decodes

use Rattle.gixobj_tree.proofs.WrittenTrees as law
use Rattle.gixobj_tree.proofs.laws.trees.tree_reencodes_identically.Goals as goal

pub returns-clause-same_bytes : goal.returns-clause-same_bytes
returns-clause-same_bytes c = law.tree_round_trips_of_written

pub returns-clause-no_error : goal.returns-clause-no_error
returns-clause-no_error c = law.tree_rejects_nothing

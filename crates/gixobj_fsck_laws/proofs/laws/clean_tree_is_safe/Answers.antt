use Rattle.gixobj_fsck_laws.proofs.CleanTrees as law
use Rattle.gixobj_fsck_laws.proofs.laws.clean_tree_is_safe.Goals as goal

pub returns : goal.returns
returns c = law.safe_of_clean_tree

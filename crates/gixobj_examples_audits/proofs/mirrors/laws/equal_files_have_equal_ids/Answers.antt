use Rattle.gixobj_examples_audits.proofs.OneTree.{equal_ids_iff_same_files}
use Rattle.gixobj_examples_audits.proofs.mirrors.laws.equal_files_have_equal_ids.Goals as goal

pub returns : goal.returns
returns c = equal_ids_iff_same_files c.built_trees_are_unique.ensures c.directory_has_files_of_tree.ensures

use Rattle.gixobj_tree_entries.proofs.EntryRuns as runs
use Rattle.gixobj_tree_entries.proofs.OneEntry as entries
use Rattle.gixobj_tree.proofs.laws.trees.tree_decodes_uniquely.Goals as goal

pub returns-clause-one_entry : goal.returns-clause-one_entry
returns-clause-one_entry c = entries.entry_unique

pub returns-clause-one_tree : goal.returns-clause-one_tree
returns-clause-one_tree c = runs.tree_unique

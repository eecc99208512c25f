use Rattle.gixobj_store.proofs.BrokenTrees.{is_longest_prefix_of_walk}
use Rattle.gixobj_store.proofs.laws.tree_readers_agree.Goals as goal
use Rattle.gixobj_tree_entries.proofs.EntryRuns as runs

pub returns-clause-yields : goal.returns-clause-yields
returns-clause-yields c = runs.yields_entries_iff

pub returns-clause-decodes : goal.returns-clause-decodes
returns-clause-decodes c = runs.decodes_to_tree_of_run

pub returns-clause-before_an_error : goal.returns-clause-before_an_error
returns-clause-before_an_error c = is_longest_prefix_of_walk

pub returns-clause-one_run : goal.returns-clause-one_run
returns-clause-one_run c = runs.entry_run_unique

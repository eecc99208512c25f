use Rattle.std.proofs.Common.{rules}
use Rattle.gixobj_store.proofs.tree.TreeRefIter.entries.Goals as goal

pub returns-in_err-tree-clause-error : goal.returns-in_err-tree-clause-error
returns-in_err-tree-clause-error c = search rules

use Rattle.std.proofs.Common.{rules}
use Rattle.gixobj_object.proofs.data.DataDataExt.try_into_commit_iter.Goals as goal

pub returns-in-Commit-clause-accepts : goal.returns-in-Commit-clause-accepts
returns-in-Commit-clause-accepts c = search rules

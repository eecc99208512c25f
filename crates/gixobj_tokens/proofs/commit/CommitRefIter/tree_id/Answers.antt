use Rattle.std.proofs.Common.{rules}
use Rattle.gixobj_tokens.proofs.commit.CommitRefIter.tree_id.Goals as goal

pub returns-in-Some : goal.returns-in-Some
returns-in-Some c = search rules

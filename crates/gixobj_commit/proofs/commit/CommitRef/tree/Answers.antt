use Rattle.std.proofs.Common.{rules}
use Rattle.gixobj_commit.proofs.commit.CommitRef.tree.Goals as goal

pub returns : goal.returns
returns c = search rules

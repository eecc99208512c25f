use Rattle.std.proofs.Common.{rules}
use Rattle.gixobj_commit.proofs.commit.owned_copy.Goals as goal

pub commit-requires-clause-committer : goal.commit-requires-clause-committer
commit-requires-clause-committer c = search rules

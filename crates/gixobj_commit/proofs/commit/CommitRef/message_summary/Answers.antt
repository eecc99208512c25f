use Rattle.std.proofs.Common.{rules}
use Rattle.gixobj_commit.proofs.commit.CommitRef.message_summary.Goals as goal

pub returns-clause-value : goal.returns-clause-value
returns-clause-value c = search rules

use Rattle.std.proofs.Common.{rules}
use Rattle.gixobj_commit.proofs.commit.CommitRef.time.Goals as goal

pub returns-in_err-actor-clause-error : goal.returns-in_err-actor-clause-error
returns-in_err-actor-clause-error c = search rules

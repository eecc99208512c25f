use Rattle.std.proofs.Common.{rules}
use Rattle.gixobj_commit.proofs.commit.CommitRef.extra_headers.Goals as goal

pub returns-clause-headers : goal.returns-clause-headers
returns-clause-headers c = search rules

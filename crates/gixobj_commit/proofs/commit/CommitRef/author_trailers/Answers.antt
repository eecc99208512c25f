use Rattle.std.proofs.Common.{rules}
use Rattle.gixobj_commit.proofs.commit.CommitRef.author_trailers.Goals as goal

pub returns-clause-filter : goal.returns-clause-filter
returns-clause-filter c = search rules

use Rattle.std.proofs.Common.{rules}
use Rattle.gixobj_commit.proofs.extra_headers.ExtraHeaders.mergetags.Goals as goal

pub returns-clause-name : goal.returns-clause-name
returns-clause-name g c = search rules

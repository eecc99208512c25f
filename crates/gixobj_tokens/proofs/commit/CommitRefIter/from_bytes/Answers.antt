use Rattle.std.proofs.Common.{rules}
use Rattle.gixobj_tokens.proofs.commit.CommitRefIter.from_bytes.Goals as goal

pub returns : goal.returns
returns c = search rules

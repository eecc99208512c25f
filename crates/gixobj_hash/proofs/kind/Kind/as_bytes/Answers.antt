use Rattle.std.proofs.Common.{rules}
use Rattle.gixobj_hash.proofs.kind.Kind.as_bytes.Goals as goal

pub returns-in-Commit-clause-value : goal.returns-in-Commit-clause-value
returns-in-Commit-clause-value c = search rules

use Rattle.std.proofs.Common.{rules}
use Rattle.gixobj_hash.proofs.hash.kind.Kind.len_in_bytes.Goals as goal

pub returns-in-Sha256 : goal.returns-in-Sha256
returns-in-Sha256 c = search rules

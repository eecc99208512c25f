use Rattle.std.proofs.Common.{rules}
use Rattle.gixobj_hash.proofs.hash.kind.Kind.len_in_hex.Goals as goal

pub returns : goal.returns
returns c = search rules

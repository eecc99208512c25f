use Rattle.std.proofs.Common.{rules}
use Rattle.gixobj_signature.proofs.signature.sign.is_dropped.Goals as goal

pub returns-then-byte-eq13 : goal.returns-then-byte-eq13
returns-then-byte-eq13 c = search rules

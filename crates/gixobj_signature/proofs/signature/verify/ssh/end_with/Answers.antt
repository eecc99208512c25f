use Rattle.std.proofs.Common.{rules}
use Rattle.gixobj_signature.proofs.signature.verify.ssh.end_with.Goals as goal

pub returns : goal.returns
returns g c = search rules

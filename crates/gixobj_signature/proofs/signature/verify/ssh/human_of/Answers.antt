use Rattle.std.proofs.Common.{rules}
use Rattle.gixobj_signature.proofs.signature.verify.ssh.human_of.Goals as goal

pub returns : goal.returns
returns c = search rules

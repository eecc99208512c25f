use Rattle.std.proofs.Common.{rules}
use Rattle.gixobj_signature.proofs.signature.sign.sign_payload.Goals as goal

pub returns-in-Ssh-clause-signed : goal.returns-in-Ssh-clause-signed
returns-in-Ssh-clause-signed g c = search rules

use Rattle.std.proofs.Common.{rules}
use Rattle.gixobj_signature.proofs.signature.verify.gpg.verify_x509.Goals as goal

pub returns-in_default : goal.returns-in_default
returns-in_default g c = search rules

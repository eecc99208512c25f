use Rattle.std.proofs.Common.{rules}
use Rattle.gixobj_signature.proofs.signature.sign.is_literal_ssh_key.Goals as goal

pub returns-in-Some : goal.returns-in-Some
returns-in-Some c = search rules

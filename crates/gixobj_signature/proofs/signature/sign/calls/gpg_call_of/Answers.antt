use Rattle.std.proofs.Common.{rules}
use Rattle.gixobj_signature.proofs.signature.sign.calls.gpg_call_of.Goals as goal

pub returns : goal.returns
returns c = search rules

use Rattle.std.proofs.Common.{rules}
use Rattle.gixobj_signature.proofs.signature.verify.gpg.outcome_of.Goals as goal

pub returns : goal.returns
returns c = search rules

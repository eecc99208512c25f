use Rattle.std.proofs.Common.{rules}
use Rattle.gixobj_signature.proofs.signature.signed_data.SignedData.to_bstring.Goals as goal

pub returns : goal.returns
returns c = search rules

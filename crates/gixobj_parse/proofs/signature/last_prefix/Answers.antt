use Rattle.std.proofs.Common.{rules}
use Rattle.gixobj_parse.proofs.signature.last_prefix.Goals as goal

pub returns : goal.returns
returns c = search rules

use Rattle.std.proofs.Common.{rules}
use Rattle.gixobj_parse.proofs.signature.Format.from_signature.Goals as goal

pub returns-clause-none : goal.returns-clause-none
returns-clause-none c = search rules

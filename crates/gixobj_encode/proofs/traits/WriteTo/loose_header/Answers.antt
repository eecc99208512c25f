use Rattle.std.proofs.Common.{rules}
use Rattle.gixobj_encode.proofs.traits.WriteTo.loose_header.Goals as goal

pub returns-clause-header : goal.returns-clause-header
returns-clause-header g c = search rules

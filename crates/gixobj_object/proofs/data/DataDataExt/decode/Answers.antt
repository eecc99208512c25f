use Rattle.std.proofs.Common.{rules}
use Rattle.gixobj_object.proofs.data.DataDataExt.decode.Goals as goal

pub returns-clause-found : goal.returns-clause-found
returns-clause-found c = search rules

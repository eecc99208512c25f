use Rattle.std.proofs.Common.{arith}
use Rattle.std.proofs.lemmas.Grind.{common_steps}
use Rattle.gixobj_encode.proofs.encode.size_plus_field.Goals as goal

pub returns : goal.returns
returns c = grind (arith, common_steps)

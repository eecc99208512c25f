use Rattle.std.proofs.Common.{arith}
use Rattle.std.proofs.lemmas.Grind.{common_steps}
use Rattle.gixobj_encode.proofs.stream_hash.compute_slice_hash.Goals as goal

pub returns-clause-accepts : goal.returns-clause-accepts
returns-clause-accepts c = grind (arith, common_steps)

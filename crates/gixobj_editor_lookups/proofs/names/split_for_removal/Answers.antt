use Rattle.std.proofs.Common.{arith}
use Rattle.std.proofs.lemmas.Grind.{common_steps}
use Rattle.gixobj_editor_lookups.proofs.names.split_for_removal.Goals as goal

pub returns : goal.returns
returns c = grind (arith, common_steps)

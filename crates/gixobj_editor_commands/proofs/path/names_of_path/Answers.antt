use Rattle.std.proofs.Common.{arith}
use Rattle.std.proofs.lemmas.Grind.{common_steps}
use Rattle.gixobj_editor_commands.proofs.path.names_of_path.Goals as goal

pub returns-in-46-clause-names : goal.returns-in-46-clause-names
returns-in-46-clause-names c = grind (arith, common_steps)

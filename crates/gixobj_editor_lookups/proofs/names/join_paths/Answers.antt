use Rattle.std.proofs.Common.{arith}
use Rattle.std.proofs.lemmas.Grind.{common_steps}
use Rattle.gixobj_editor_lookups.proofs.names.join_paths.Goals as goal

pub returns-in_err-push_names-clause-allocates : goal.returns-in_err-push_names-clause-allocates
returns-in_err-push_names-clause-allocates c = grind (arith, common_steps)

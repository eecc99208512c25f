-- A run that fails reports its error.
use Rattle.std.proofs.Common.{rules}
use Rattle.gixobj_cli_show.proofs.engine.run.Goals as goal

pub returns-in-Ok-clause-error : goal.returns-in-Ok-clause-error
returns-in-Ok-clause-error g c = search rules

-- The results of the program.
use Rattle.std.proofs.Common.{rules}
use Rattle.gixobj_cli_show.proofs.engine.engine.Goals as goal

pub returns-clause-written : goal.returns-clause-written
returns-clause-written g c = search rules

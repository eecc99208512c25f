use Rattle.std.proofs.Common.{rules}
use Rattle.gixobj_cli_show.proofs.failure.Failure.status.Goals as goal

pub returns-in-Usage : goal.returns-in-Usage
returns-in-Usage c = search rules

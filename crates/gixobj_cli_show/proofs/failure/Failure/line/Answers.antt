use Rattle.std.proofs.Common.{rules}
use Rattle.gixobj_cli_show.proofs.failure.Failure.line.Goals as goal

pub returns-in-ShortData : goal.returns-in-ShortData
returns-in-ShortData c = search rules

use Rattle.std.proofs.Common.{rules}
use Rattle.gixobj_encode.proofs.encode.write_lower_case.Goals as goal

pub returns-clause-appended : goal.returns-clause-appended
returns-clause-appended g c = search rules

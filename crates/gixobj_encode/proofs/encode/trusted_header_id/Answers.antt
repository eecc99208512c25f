use Rattle.std.proofs.Common.{rules}
use Rattle.gixobj_encode.proofs.encode.trusted_header_id.Goals as goal

pub returns-clause-appended : goal.returns-clause-appended
returns-clause-appended g c = search rules

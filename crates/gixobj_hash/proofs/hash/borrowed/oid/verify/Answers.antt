use Rattle.std.proofs.Common.{rules}
use Rattle.gixobj_hash.proofs.hash.borrowed.oid.verify.Goals as goal

pub returns-clause-error : goal.returns-clause-error
returns-clause-error c = search rules

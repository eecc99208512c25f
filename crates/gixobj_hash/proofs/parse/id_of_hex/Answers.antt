use Rattle.std.proofs.Common.{rules}
use Rattle.gixobj_hash.proofs.parse.id_of_hex.Goals as goal

pub returns-clause-decodes : goal.returns-clause-decodes
returns-clause-decodes c = search rules

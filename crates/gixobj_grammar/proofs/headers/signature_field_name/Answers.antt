use Rattle.std.proofs.Common.{rules}
use Rattle.gixobj_grammar.proofs.headers.signature_field_name.Goals as goal

pub returns-in-Sha1 : goal.returns-in-Sha1
returns-in-Sha1 c = search rules

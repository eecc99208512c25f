use Rattle.std.proofs.Common.{rules}
use Rattle.gixobj_grammar.proofs.tokens.Token.into_id.Goals as goal

pub returns-in-Target : goal.returns-in-Target
returns-in-Target c = search rules

use Rattle.std.proofs.Common.{rules}
use Rattle.gixobj_tokens.proofs.commit.Token.id.Goals as goal

pub returns-in_default : goal.returns-in_default
returns-in_default c = search rules

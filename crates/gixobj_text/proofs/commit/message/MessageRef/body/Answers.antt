use Rattle.std.proofs.Common.{rules}
use Rattle.gixobj_text.proofs.commit.message.MessageRef.body.Goals as goal

pub returns-in-Some-clause-none : goal.returns-in-Some-clause-none
returns-in-Some-clause-none c = search rules

use Rattle.std.proofs.Common.{rules}
use Rattle.gixobj_grammar.proofs.tags.name.Goals as goal

pub returns-clause-found : goal.returns-clause-found
returns-clause-found c = search rules

use Rattle.std.proofs.Common.{rules}
use Rattle.gixobj_tokens.proofs.tag.TagRefIter.target_id.Goals as goal

pub returns-in-Some-clause-found : goal.returns-in-Some-clause-found
returns-in-Some-clause-found c = search rules

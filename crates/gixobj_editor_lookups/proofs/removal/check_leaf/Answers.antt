use Rattle.std.proofs.Common.{rules}
use Rattle.gixobj_editor_lookups.proofs.removal.check_leaf.Goals as goal

pub returns-clause-error : goal.returns-clause-error
returns-clause-error c = search rules

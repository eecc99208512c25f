use Rattle.std.proofs.Common.{rules}
use Rattle.gixobj_editor_lookups.proofs.names.validate_name.Goals as goal

pub returns-clause-accepted : goal.returns-clause-accepted
returns-clause-accepted c = search rules

use Rattle.std.proofs.Common.{rules}
use Rattle.gixobj_tag.proofs.name.validated_name.Goals as goal

pub returns-then-starts_with-clause-error : goal.returns-then-starts_with-clause-error
returns-then-starts_with-clause-error c = search rules

use Rattle.std.proofs.Common.{rules}
use Rattle.gixobj_tag.proofs.tag.TagRef.from_bytes.Goals as goal

pub returns-in-Some-clause-error : goal.returns-in-Some-clause-error
returns-in-Some-clause-error c = search rules

use Rattle.gixobj_examples_audits.proofs.OneWrite.{emits_unique}
use Rattle.gixobj_examples_audits.proofs.laws.write_has_one_outcome.Goals as goal

pub returns : goal.returns
returns c = emits_unique

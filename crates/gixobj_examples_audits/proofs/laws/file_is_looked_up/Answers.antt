use Rattle.gixobj_examples_audits.proofs.PathEntries.{looked_up_of_file}
use Rattle.gixobj_examples_audits.proofs.laws.file_is_looked_up.Goals as goal

pub returns : goal.returns
returns c = λ objects trees fits T own. looked_up_of_file c.id_equality_is_decidable.ensures objects trees fits T own

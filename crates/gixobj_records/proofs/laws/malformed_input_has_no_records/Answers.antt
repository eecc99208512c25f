use Rattle.gixobj_records.proofs.Faults.{no_records_of_malformed}
use Rattle.gixobj_records.proofs.laws.malformed_input_has_no_records.Goals as goal

pub returns : goal.returns
returns c = no_records_of_malformed

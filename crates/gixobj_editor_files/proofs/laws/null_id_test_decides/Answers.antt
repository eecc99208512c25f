use Rattle.gixobj_editor_files.proofs.NullIds.{is_null_of_true, is_null_true}
use Rattle.gixobj_editor_files.proofs.laws.null_id_test_decides.Goals as goal

pub returns : goal.returns
returns c = λ id. (is_null_of_true id, is_null_true id)

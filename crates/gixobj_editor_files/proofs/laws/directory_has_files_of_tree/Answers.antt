use Rattle.std.proofs.Common.{inr}
use Rattle.gixobj_editor_files.proofs.OpenedFiles.{files_below_of_table}
use Rattle.gixobj_editor_files.proofs.laws.directory_has_files_of_tree.Goals as goal

pub returns : goal.returns
returns c = λ T n mode id tree is named. files_below_of_table T n mode id tree is (inr named)

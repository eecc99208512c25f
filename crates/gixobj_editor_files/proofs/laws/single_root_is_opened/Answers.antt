use Rattle.gixobj_editor_files.proofs.WellFormedEdits.{root_alone_is_opened}
use Rattle.gixobj_editor_files.proofs.laws.single_root_is_opened.Goals as goal

pub returns : goal.returns
returns c = root_alone_is_opened

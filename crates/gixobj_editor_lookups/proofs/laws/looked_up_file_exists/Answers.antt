use Rattle.gixobj_editor_lookups.proofs.LookedUp.{file_looked_up}
use Rattle.gixobj_editor_lookups.proofs.laws.looked_up_file_exists.Goals as goal

pub returns : goal.returns
returns c = file_looked_up

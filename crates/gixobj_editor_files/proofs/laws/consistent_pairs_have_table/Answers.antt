use Rattle.gixobj_editor_files.proofs.ListedTables.{fitting_table}
use Rattle.gixobj_editor_files.proofs.laws.consistent_pairs_have_table.Goals as goal

pub returns : goal.returns
returns c = fitting_table

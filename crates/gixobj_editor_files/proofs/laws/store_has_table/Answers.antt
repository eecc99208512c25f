use Rattle.gixobj_editor_files.proofs.ListedTables.{table_of_store_exists}
use Rattle.gixobj_editor_files.proofs.laws.store_has_table.Goals as goal

pub returns : goal.returns
returns c = table_of_store_exists

use Rattle.gixobj_editor_files.proofs.PlainHistories.{history_is_up_to_plain}
use Rattle.gixobj_editor_files.proofs.laws.plain_history_is_table_independent.Goals as goal

pub returns : goal.returns
returns c = history_is_up_to_plain

use Rattle.std.proofs.Common.{rules}
use Rattle.gixobj_tree_entries.proofs.entry_mode.EntryMode.kind.Goals as goal

pub returns-in-40960 : goal.returns-in-40960
returns-in-40960 c = search rules

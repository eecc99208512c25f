use Rattle.std.proofs.Common.{rules}
use Rattle.gixobj_tree_entries.proofs.entry_mode.EntryMode.is_link.Goals as goal

pub returns : goal.returns
returns c = search rules

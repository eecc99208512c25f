use Rattle.std.proofs.Common.{rules}
use Rattle.gixobj_tree_entries.proofs.entry_mode.EntryMode.is_blob_or_symlink.Goals as goal

pub returns-in_default : goal.returns-in_default
returns-in_default c = search rules

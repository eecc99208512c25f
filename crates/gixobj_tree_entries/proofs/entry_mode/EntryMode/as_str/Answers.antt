use Rattle.std.proofs.Common.{rules}
use Rattle.gixobj_tree_entries.proofs.entry_mode.EntryMode.as_str.Goals as goal

pub returns-in-BlobExecutable : goal.returns-in-BlobExecutable
returns-in-BlobExecutable c = search rules

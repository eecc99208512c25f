use Rattle.std.proofs.Common.{rules}
use Rattle.gixobj_tree_entries.proofs.entry_mode.EntryMode.from_bytes.Goals as goal

pub returns-clause-found : goal.returns-clause-found
returns-clause-found c = search rules

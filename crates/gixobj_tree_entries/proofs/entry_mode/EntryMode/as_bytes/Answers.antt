use Rattle.std.proofs.Common.{rules}
use Rattle.gixobj_tree_entries.proofs.entry_mode.EntryMode.as_bytes.Goals as goal

pub returns-clause-encoded : goal.returns-clause-encoded
returns-clause-encoded c = search rules

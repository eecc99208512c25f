use Rattle.std.proofs.Common.{rules}
use Rattle.gixobj_tree_entries.proofs.entry_kind.EntryKind.as_octal_str.Goals as goal

pub returns : goal.returns
returns c = search rules

use Rattle.std.proofs.Common.{rules}
use Rattle.gixobj_tree_entries.proofs.entry.EntryOrd.cmp.Goals as goal

pub returns : goal.returns
returns c = search rules

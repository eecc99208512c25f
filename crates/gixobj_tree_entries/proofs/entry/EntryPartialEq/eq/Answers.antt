use Rattle.std.proofs.Common.{rules}
use Rattle.gixobj_tree_entries.proofs.entry.EntryPartialEq.eq.Goals as goal

pub returns-then-eq-2 : goal.returns-then-eq-2
returns-then-eq-2 c = search rules

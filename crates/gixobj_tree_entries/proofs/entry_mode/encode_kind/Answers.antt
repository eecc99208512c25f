use Rattle.std.proofs.Common.{rules}
use Rattle.gixobj_tree_entries.proofs.entry_mode.encode_kind.Goals as goal

pub returns-in-33261-clause-found : goal.returns-in-33261-clause-found
returns-in-33261-clause-found c = search rules

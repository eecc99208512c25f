use Rattle.std.proofs.Common.{rules}
use Rattle.gixobj_tree_entries.proofs.entry_mode.mode_from_digits.Goals as goal

pub returns-then-digits-eq48 : goal.returns-then-digits-eq48
returns-then-digits-eq48 c = search rules

-- No entry begins there.
use Rattle.gixobj_c.proofs.EntryParts.{malformed_entry_call}
use Rattle.gixobj_c.proofs.trees.entry_at.Goals as goal

pub returns-in_default : goal.returns-in_default
returns-in_default c = malformed_entry_call _ _ _ _ _ c.requires c.bytes_from-input.ensures c.in_default.ensures.none

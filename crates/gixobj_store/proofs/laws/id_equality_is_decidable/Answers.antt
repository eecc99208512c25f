use Rattle.gixobj_hash.proofs.SameIds.{id_eq_or_ne}
use Rattle.gixobj_store.proofs.laws.id_equality_is_decidable.Goals as goal

pub returns : goal.returns
returns c = id_eq_or_ne

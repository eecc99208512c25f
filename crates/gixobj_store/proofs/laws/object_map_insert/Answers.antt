use Rattle.std.specs.FinMap as finite
use Rattle.gixobj_store.proofs.Keeping as law
use Rattle.gixobj_hash.specs.Hash.Order.{id_cmp}
use Rattle.gixobj_store.proofs.laws.object_map_insert.Goals as goal

pub returns-clause-empty : goal.returns-clause-empty
returns-clause-empty c = finite.get-empty id_cmp

pub returns-clause-inserted : goal.returns-clause-inserted
returns-clause-inserted c = law.named_insert_same

pub returns-clause-unchanged : goal.returns-clause-unchanged
returns-clause-unchanged c = law.named_insert_other

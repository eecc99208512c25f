-- The map from ids to their numbers.
use Rattle.std.specs.Prelude.{◌≡◌, ℕ, List, Some}
use Rattle.std.specs.BTreeMap as tree
use Rattle.std.specs.BTreeMap.{BTreeMap}
use Rattle.gixobj_hash.specs.Hash.Order.{id_cmp}
use Rattle.gixobj_hash.specs.declared.hash.object_id.ObjectId.{ObjectId}
use Rattle.gixobj_walks.specs.Named.{Names}

-- the map has exactly the numbers of these ids
pub record AreNumbers (ids : List ObjectId) (numbers : BTreeMap ObjectId ℕ) : Type 0 where
  pub named : (id : ObjectId) (number : ℕ) → tree.get id_cmp numbers id ≡ Some number → Names ids number id
  pub numbered : (id : ObjectId) (number : ℕ) → Names ids number id → tree.get id_cmp numbers id ≡ Some number

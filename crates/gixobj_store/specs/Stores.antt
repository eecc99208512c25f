-- The model of an object store, and the results of lookups in it.
use Rattle.std.specs.Prelude.{◌≡◌, ℕ, Bool, IsTrue, List, Option, Some, length, ⊤}
use Rattle.std.specs.FinMap as map
use Rattle.std.specs.Option.{option_map}
use Rattle.gixobj_hash.specs.Hash.Order.{id_cmp}
use Rattle.gixobj_hash.specs.declared.hash.kind.Kind as hash
use Rattle.gixobj_hash.specs.declared.hash.object_id.ObjectId.{ObjectId}
use Rattle.gixobj_hash.specs.declared.header.Header.{Header}
use Rattle.gixobj_hash.specs.declared.kind.Kind.{Kind}
use Rattle.gixobj_store.specs.declared.«data».Data.{Data}
use Rattle.gixobj_store.specs.declared.find.Error.{Error}
use Rattle.gixobj_store.specs.declared.find.Error.TheVariants.{OutOfMemory, Store}

-- a stored object: its kind, the hash kind of the ids in it, and its bytes
pub record StoredObject : Type 0 where
  pub kind : Kind
  pub object_hash : hash.Kind
  pub bytes : List ℕ

-- the object that each id names
abbrev pub Objects : Type 0
Objects = map.FinMap id_cmp StoredObject

-- the object that the id names, or none
abbrev pub named : Objects → ObjectId → Option StoredObject
named = map.get

-- the id names this object
abbrev pub Names : Objects → ObjectId → StoredObject → Type 0
Names objects id it = named objects id ≡ Some it

-- the stored object of an object that is not decoded yet
abbrev pub stored : Data → StoredObject
stored it = record { kind = it.kind; object_hash = it.object_hash; bytes = it.bytes.now }

-- the header of a stored object: its kind and its size in bytes
abbrev pub header : StoredObject → Header
header it = record { kind = it.kind; size = length it.bytes }

-- a lookup found the object that the id names, or none if the id names none
abbrev pub IsFound : Objects → ObjectId → Option Data → Type 0
IsFound objects id found = option_map stored found ≡ named objects id

-- a lookup found the kind and the size of the object that the id names, or none if the id names none
abbrev pub IsHeaderFound : Objects → ObjectId → Option Header → Type 0
IsHeaderFound objects id found = found ≡ option_map header (named objects id)

-- the error of a lookup: the store failed for an id whose lookup may fail, or out of memory
abbrev pub IsFindError : (ObjectId → Bool) → ObjectId → Error → Type 0
IsFindError may_fail id (Store message) = IsTrue (may_fail id)
IsFindError may_fail id OutOfMemory = ⊤

-- the model of a store: the object that each id names, and the ids for which a lookup may fail
pub record StoreModel (S : Type 0) : Type 0 where
  pub objects : S → Objects
  pub may_fail : S → ObjectId → Bool

-- the model of a store with these objects, and these ids for which a lookup may fail
abbrev pub store_model : {S : Type 0} → (S → Objects) → (S → ObjectId → Bool) → StoreModel S
store_model objects may_fail = record { objects = objects; may_fail = may_fail }

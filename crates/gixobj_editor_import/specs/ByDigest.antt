-- Objects that a store names by their digests.
use Rattle.std.specs.Prelude.{◌≡◌, ◌⊎◌, ℕ, List}
use Rattle.gixobj_store.specs.Stores.{Names, Objects, StoredObject, named}
use Rattle.gixobj_hash.specs.Hash.{id_of}
use Rattle.gixobj_hash.specs.declared.hash.object_id.ObjectId.{ObjectId}
use Rattle.gixobj_store_keep.specs.Keeping.{commit_object}

-- the digest of an object
abbrev pub digest_id : StoredObject → ObjectId
digest_id it = id_of it.object_hash it.kind it.bytes

-- the id names an object whose digest it is
pub record NamesByDigest (objects : Objects) (id : ObjectId) : Type 0 where
  pub it : StoredObject
  pub named_so : Names objects id it
  pub digest : digest_id it ≡ id

-- each id names what it named before, or an object whose digest it is
abbrev pub AddsByDigest : Objects → Objects → Type 0
AddsByDigest before after =
    (id : ObjectId) → (named after id ≡ named before id) ⊎ NamesByDigest after id

-- the id names the commit of these bytes, or another object whose digest is the same id
pub record NamesCommitOrCollision (objects : Objects) (id : ObjectId) (content : List ℕ) : Type 0 where
  pub it : StoredObject
  pub named_so : Names objects id it
  pub which : (it ≡ commit_object id content) ⊎ (digest_id it ≡ id)

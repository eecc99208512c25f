-- Facts about stores from the laws that a body calls.
use Rattle.std.proofs.Common.{◌≡◌, ◌≢◌, ◌⊎◌, Some}
use Rattle.std.specs.FinMap as finite
use Rattle.gixobj_store.specs.Stores.{Objects, StoredObject, named}
use Rattle.gixobj_editor_lookups.specs.Openings.{AreTreesOf}
use Rattle.gixobj_editor_files.specs.Files.{Trees}
use Rattle.gixobj_hash.specs.declared.hash.object_id.ObjectId.{ObjectId}

-- the facts about an inserted object
pub record Inserted : Type 0 where
  pub there : (objects : Objects) (id : ObjectId) (it : StoredObject) → named (finite.insert objects id it) id ≡ Some it
  pub elsewhere : (objects : Objects) (id other : ObjectId) (it : StoredObject) → other ≢ id → named (finite.insert objects id it) other ≡ named objects other
  pub same_or_not : (id other : ObjectId) → (id ≡ other) ⊎ (id ≢ other)

-- the facts about every store
pub record OfStores : Type 0 where
  pub trees_of : (objects : Objects) → (trees : Trees) × AreTreesOf objects trees
  pub inserted : Inserted

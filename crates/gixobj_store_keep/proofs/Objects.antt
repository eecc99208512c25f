-- Lookups and insertions in the map of the store in memory: for the calls of `Memory`.
use Rattle.std.proofs.Common.{◌≡◌, ◌++◌, ℕ, Bool, List, [], Some, None, true, false, ap, refl, sym, ◌∙◌}
use Rattle.std.specs.BTreeMap.{Updates, get, is_at}
use Rattle.std.specs.FinMap as finite
use Rattle.std.specs.Option.{option_map}
use Rattle.std.specs.Prelude.{Option, cond}
use Rattle.std.specs.declared.alloc.Global.{Global}
use Rattle.std.specs.declared.vec.Vec.{Vec}
use Rattle.gixobj_store.proofs.Keeping.{named_from_entries, is_insert_of_map_insert}
use Rattle.gixobj_store.specs.Stores.{StoredObject, named}
use Rattle.gixobj_hash.specs.Hash.{id_kind}
use Rattle.gixobj_hash.specs.Hash.Order.{id_cmp}
use Rattle.gixobj_hash.specs.declared.hash.kind.Kind.{Kind}
use Rattle.gixobj_hash.specs.declared.hash.object_id.ObjectId.{ObjectId}
use Rattle.gixobj_hash.specs.declared.kind.Kind as object
use Rattle.gixobj_hash.specs.declared.kind.Kind.TheVariants.{Commit, Tree}
use Rattle.gixobj_store_keep.specs.Keeping.{commit_object, tree_object, with_commit, with_tree}
use Rattle.gixobj_tree_entries.specs.Entries.{EntryView}
use Rattle.gixobj_tree.specs.TreeEncoding.{encode_tree}
use Rattle.gixobj_store_keep.specs.Memory.{memory_objects, stored_object}
use Rattle.gixobj_store_keep.specs.declared.memory.Memory.{Memory}
use Rattle.gixobj_store_keep.specs.declared.memory.Stored.{Stored}

-- the id names the object of the map
pub named_memory_objects : (store : Memory) (id : ObjectId) → named (memory_objects store) id ≡ option_map stored_object (get id_cmp store.objects id)
named_memory_objects store id = named_from_entries stored_object id store.objects.entries

-- an id that the map lacks names nothing
pub named_none_of_absent : (store : Memory) (id : ObjectId) → get id_cmp store.objects id ≡ None → named (memory_objects store) id ≡ None
named_none_of_absent store id absent = named_memory_objects store id ∙ ap (option_map stored_object) absent

option_map_stored_object_cond : (b : Bool) (it : Stored) (rest : Option Stored)
    → option_map stored_object (cond b (Some it) rest) ≡ cond b (Some (stored_object it))
    (option_map stored_object rest)
option_map_stored_object_cond true it rest = refl
option_map_stored_object_cond false it rest = refl

memory_objects_of_updates : (before after : Memory) (id : ObjectId) (it : Stored) → Updates id_cmp before.objects after.objects id (Some it)
    → memory_objects after ≡ finite.insert (memory_objects before) id (stored_object it)
memory_objects_of_updates before after id it updates =
    is_insert_of_map_insert (memory_objects before) (memory_objects after) id (stored_object it)
    (λ q. named_memory_objects after q ∙ ap (option_map stored_object) (updates.0 q)
    ∙ option_map_stored_object_cond (is_at (id_cmp id) q) it (get id_cmp before.objects q)
    ∙ ap (cond (is_at (id_cmp id) q) (Some (stored_object it))) (sym (named_memory_objects before q)))

stored_object_of_bytes : (it : Stored) (bytes : List ℕ) → it.bytes.items ≡ bytes
    → ◌≡◌ {A = StoredObject} (stored_object it) (record { kind = it.kind; object_hash = it.object_hash; bytes = bytes })
stored_object_of_bytes it bytes same i = record { kind = it.kind; object_hash = it.object_hash; bytes = same i }

-- the store has a new object of these bytes
pub memory_objects_insert : (before after : Memory) (id : ObjectId) (it : Stored) (bytes : List ℕ) → Updates id_cmp before.objects after.objects id (Some it)
    → it.bytes.items ≡ bytes
    → memory_objects after ≡ finite.insert (memory_objects before) id (record { kind = it.kind; object_hash = it.object_hash; bytes = bytes })
memory_objects_insert before after id it bytes updates same = memory_objects_of_updates before after id it updates
    ∙ ap (finite.insert (memory_objects before) id)
    (stored_object_of_bytes it bytes same)

-- the store has the encoding of a new tree
pub memory_objects_with_tree : (before after : Memory) (id : ObjectId) (tree : List EntryView) (hash : Kind) (prefix : List ℕ) (bytes : Vec ℕ Global)
    → hash ≡ id_kind id
    → prefix ≡ [] → bytes.items ≡ prefix ++ encode_tree tree
    → Updates id_cmp before.objects after.objects id (Some (record { kind = Tree; object_hash = hash; bytes = bytes }))
    → memory_objects after ≡ with_tree (id, tree) (memory_objects before)
memory_objects_with_tree before after id tree hash prefix bytes same_hash none written updates =
    let same : bytes.items ≡ encode_tree tree = written ∙ ap (λ (start : List ℕ). start ++ encode_tree tree) none in
    let same_object : ◌≡◌ {A = StoredObject} (record { kind = Tree; object_hash = hash; bytes = bytes.items }) (tree_object id tree) =
    λ i. record { kind = Tree; object_hash = same_hash i; bytes = same i } in
    memory_objects_of_updates before after id (record { kind = Tree; object_hash = hash; bytes = bytes }) updates
    ∙ ap (finite.insert (memory_objects before) id) same_object

-- the store has a new commit
pub memory_objects_with_commit : (before after : Memory) (id : ObjectId) (hash : Kind) (bytes : Vec ℕ Global) (content : List ℕ) → hash ≡ id_kind id
    → bytes.items ≡ content
    → Updates id_cmp before.objects after.objects id (Some (record { kind = Commit; object_hash = hash; bytes = bytes }))
    → memory_objects after ≡ with_commit id content (memory_objects before)
memory_objects_with_commit before after id hash bytes content same_hash same updates =
    let same_object : ◌≡◌ {A = StoredObject} (record { kind = Commit; object_hash = hash; bytes = bytes.items }) (commit_object id content) =
    λ i. record { kind = Commit; object_hash = same_hash i; bytes = same i } in
    memory_objects_of_updates before after id (record { kind = Commit; object_hash = hash; bytes = bytes }) updates
    ∙ ap (finite.insert (memory_objects before) id) same_object

-- the store has a new object under an id that the caller knows
pub memory_objects_insert_known : (before after : Memory) (id : ObjectId) (kind : object.Kind) (hash : Kind) (bytes : Vec ℕ Global) (content : List ℕ)
    → hash ≡ id_kind id
    → bytes.items ≡ content
    → Updates id_cmp before.objects after.objects id (Some (record { kind = kind; object_hash = hash; bytes = bytes }))
    → memory_objects after ≡ finite.insert (memory_objects before) id (record { kind = kind; object_hash = id_kind id; bytes = content })
memory_objects_insert_known before after id kind hash bytes content same_hash same updates =
    let same_object : ◌≡◌ {A = StoredObject} (record { kind = kind; object_hash = hash; bytes = bytes.items })
    (record { kind = kind; object_hash = id_kind id; bytes = content }) = λ i. record { kind = kind; object_hash = same_hash i; bytes = same i } in
    memory_objects_of_updates before after id (record { kind = kind; object_hash = hash; bytes = bytes }) updates
    ∙ ap (finite.insert (memory_objects before) id) same_object

-- The root that is edited.
use Rattle.std.specs.Prelude.{◌≡◌, ◌≢◌, ◌⊎◌, ℕ, List, [], false, length}
use Rattle.gixobj_editor_lookups.specs.Openings.{NamesIllFormedTree, NamesTree}
use Rattle.gixobj_c_edit.specs.Failures.{lookup_failure}
use Rattle.gixobj_c_edit.specs.declared.failure.Failure.{Failure}
use Rattle.gixobj_c_edit.specs.declared.failure.Failure.TheVariants as failure
use Rattle.gixobj_editor_files.specs.Tables.{IsNeverLookedUp}
use Rattle.gixobj_hash.specs.Hash.{hash_len, id_bytes, id_kind}
use Rattle.gixobj_hash.specs.declared.hash.kind.Kind.{Kind}
use Rattle.gixobj_hash.specs.declared.hash.object_id.ObjectId.{ObjectId}
use Rattle.gixobj_store_keep.specs.ExistingTrees.{IsExistingTreeError}
use Rattle.gixobj_store_keep.specs.declared.find.existing_object.Error as existing
use Rattle.gixobj_store.specs.Stores.{Objects}
use Rattle.gixobj_tree_entries.specs.Entries.{EntryView}

-- the bytes are this id, and it is of this hash function
abbrev pub IsIdOf : Kind → List ℕ → ObjectId → Type 0
IsIdOf hash bytes id = (id_bytes id ≡ bytes) × (id_kind id ≡ hash)

-- the id is that of the tree of these entries: a stored one, or the empty one
abbrev pub IsTreeOf : Objects → ObjectId → List EntryView → Type 0
IsTreeOf objects id entries =
    (IsNeverLookedUp id × (entries ≡ [])) ⊎ ((¬ IsNeverLookedUp id) × NamesTree objects id entries)

-- the bytes are the id of the root of these entries
abbrev pub IsRootOf : Objects → Kind → List ℕ → List EntryView → Type 0
IsRootOf objects hash root entries = (id : ObjectId) × IsIdOf hash root id × IsTreeOf objects id entries

-- why the id names no well-formed tree
abbrev pub IsTreeFailure : Objects → ObjectId → Failure → Type 0
IsTreeFailure objects id it =
    ((cause : existing.Error) × IsExistingTreeError objects (λ id. false) id cause × (it ≡ lookup_failure cause))
    ⊎ (((it ≡ failure.MalformedTree) × NamesIllFormedTree objects id) ⊎ (it ≡ failure.OutOfMemory))

-- why there is no tree of this id
abbrev pub IsTreeError : Objects → ObjectId → Failure → Type 0
IsTreeError objects id it = (¬ IsNeverLookedUp id) × IsTreeFailure objects id it

-- why there is no root: an id of this hash function has another length; or the id names no well-formed tree
abbrev pub IsRootError : Objects → Kind → List ℕ → Failure → Type 0
IsRootError objects hash root it = ((it ≡ failure.Malformed) × (length root ≢ hash_len hash))
    ⊎ ((id : ObjectId) × IsIdOf hash root id × IsTreeError objects id it)

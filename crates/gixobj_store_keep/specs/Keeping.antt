-- The model of a store after trees and commits are kept, and errors of keeping them.
use Rattle.std.specs.Prelude.{◌≡◌, ◌⊎◌, ℕ, Bool, IsTrue, List, [], ◌∷◌, All, Some, slice_get, take, ⊤}
use Rattle.std.specs.FinMap as map
use Rattle.gixobj_store.specs.Stores.{Objects, StoredObject}
use Rattle.gixobj_hash.specs.Hash.{id_kind}
use Rattle.gixobj_hash.specs.declared.hash.object_id.ObjectId.{ObjectId}
use Rattle.gixobj_hash.specs.declared.kind.Kind.TheVariants.{Commit, Tree}
use Rattle.gixobj_tree_entries.specs.Entries.{EntryView, Pair}
use Rattle.gixobj_tree.specs.TreeEncoding.{encode_tree, IsUnencodableTree, IsEncodableTree}
use Rattle.gixobj_store_keep.specs.declared.keeping.KeepError.{KeepError}
use Rattle.gixobj_store_keep.specs.declared.keeping.KeepError.TheVariants.{OutOfMemory, Store}

-- the encoding of a tree, as a stored object with ids of the hash kind of this id
abbrev pub tree_object : ObjectId → List EntryView → StoredObject
tree_object id entries = record { kind = Tree; object_hash = id_kind id; bytes = encode_tree entries }

-- the objects after a tree is inserted under its id; all other ids are unchanged
abbrev pub with_tree : Pair → Objects → Objects
with_tree it objects = map.insert objects it.0 (tree_object it.0 it.1)

-- the objects after trees are inserted in order
abbrev pub with_trees : List Pair → Objects → Objects
with_trees [] objects = objects
with_trees (it ∷ trees) objects = with_trees trees (with_tree it objects)

-- the error of keeping a tree. Store: the lookup of the id may fail, or the tree cannot be encoded; or out of memory
abbrev pub IsKeepError : (ObjectId → Bool) → ObjectId → List EntryView → KeepError → Type 0
IsKeepError may_fail id entries (Store message) = IsTrue (may_fail id) ⊎ IsUnencodableTree entries
IsKeepError may_fail id entries OutOfMemory = ⊤

-- the tree at this index failed with the error; the trees before it are kept, and no other
pub record StopsKeepingAt (may_fail : ObjectId → Bool) (trees : List Pair) (old new : Objects) (number : ℕ)
    (error : KeepError) : Type 0 where
  pub failed_pair : Pair
  pub at : slice_get trees number ≡ Some failed_pair
  pub cause : IsKeepError may_fail failed_pair.0 failed_pair.1 error
  pub stored : new ≡ with_trees (take number trees) old
  pub have_encodings : All (λ it. IsEncodableTree it.1) (take number trees)

-- the errors that keeping a tree under an id may return, by the state of the store
abbrev pub KeepErrors : Type 0 → Type 1
KeepErrors S = S → ObjectId → List EntryView → KeepError → Type 0

-- the error is one of the store's for the tree at this index, in a state in which the trees before it are kept
pub record IsStoreErrorAt {S : Type 0} (objects : S → Objects) (errors : KeepErrors S) (old : S) (trees : List Pair)
    (number : ℕ) (error : KeepError) : Type 0 where
  pub failed_pair : Pair
  pub at : slice_get trees number ≡ Some failed_pair
  pub reached : S
  pub stored : objects reached ≡ with_trees (take number trees) (objects old)
  pub cause : errors reached failed_pair.0 failed_pair.1 error

-- ---- commits

-- the errors that keeping a commit of some bytes under an id may return, by the state of the store
abbrev pub KeepCommitErrors : Type 0 → Type 1
KeepCommitErrors S = S → ObjectId → List ℕ → KeepError → Type 0

-- the bytes as a stored commit with ids of the hash kind of this id
abbrev pub commit_object : ObjectId → List ℕ → StoredObject
commit_object id bytes = record { kind = Commit; object_hash = id_kind id; bytes = bytes }

-- the objects after a commit is inserted under its id; all other ids are unchanged
abbrev pub with_commit : ObjectId → List ℕ → Objects → Objects
with_commit id bytes objects = map.insert objects id (commit_object id bytes)

-- the error of keeping a commit. Store: the lookup of the id may fail; or out of memory
abbrev pub IsKeepCommitError : (ObjectId → Bool) → ObjectId → KeepError → Type 0
IsKeepCommitError may_fail id (Store message) = IsTrue (may_fail id)
IsKeepCommitError may_fail id OutOfMemory = ⊤

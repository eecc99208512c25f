-- Tables that agree with a store and with emitted trees.
use Rattle.std.specs.Prelude.{◌≡◌, ◌≢◌, ◌⊎◌, true, List, [], ◌∷◌, All, Contains, IsFalse, Option, Some, None}
use Rattle.gixobj_tree_entries.specs.Entries.{EntryView, Pair}
use Rattle.gixobj_hash.specs.Hash.{id_kind, id_of}
use Rattle.gixobj_hash.specs.declared.hash.kind.Kind.{Kind}
use Rattle.gixobj_hash.specs.declared.hash.object_id.ObjectId.{ObjectId}
use Rattle.gixobj_hash.specs.declared.kind.Kind.TheVariants.{Tree}
use Rattle.gixobj_editor_files.specs.Files.{Table, Trees, is_null}

-- the id is never looked up, since it names no files: it is the null id, or the id of the empty tree of its kind
abbrev pub IsNeverLookedUp : ObjectId → Type 0
IsNeverLookedUp id = (is_null id ≡ true) ⊎ (id ≡ id_of (id_kind id) Tree [])

-- the table has the trees that a store names; ids that are never looked up are excepted
abbrev pub AgreesWithStore : Table → Trees → Type 0
AgreesWithStore T trees = (id : ObjectId) (entries : List EntryView) → (¬ IsNeverLookedUp id) → trees id ≡ Some entries
    → T.tree_at id ≡ Some entries

-- the table has the tree of each pair by its id
abbrev pub AgreesWithPairs : Table → List Pair → Type 0
AgreesWithPairs T pairs = All (λ pair. T.tree_at pair.0 ≡ Some pair.1) pairs

-- no tree of these pairs has two ids
abbrev pub HasOneIdPerTree : List Pair → Type 0
HasOneIdPerTree pairs = (tree : List EntryView) (x y : ObjectId) → Contains pairs (x, tree) → Contains pairs (y, tree)
    → x ≡ y

-- the table of a store has the trees that the store names, and no other; ids that are never looked up are excepted
abbrev pub IsTableOfStore : Table → Trees → Type 0
IsTableOfStore T trees = (id : ObjectId) → (¬ IsNeverLookedUp id) → T.tree_at id ≡ trees id

-- pairs that are consistent with a store; no id is null, and an empty tree's id names the empty tree alone; no id names
-- two trees, and an id that the store names has the store's tree
pub record IsConsistentWith (pairs : List Pair) (trees : Trees) : Type 0 where
  pub filled : All (λ pair. IsFalse (is_null pair.0)) pairs
  pub empty : All (λ pair. (hash : Kind) → pair.0 ≡ id_of hash Tree [] → pair.1 ≡ []) pairs
  pub one_tree : All (λ pair. All (λ other. other.0 ≡ pair.0 → other.1 ≡ pair.1) pairs) pairs
  pub of_the_store : All (λ pair. (entries : List EntryView) → trees pair.0 ≡ Some entries → entries ≡ pair.1) pairs

-- the tree of the first pair of this id, or none if there is no such pair
abbrev pub IsFirst : List Pair → ObjectId → Option (List EntryView) → Type 0
IsFirst [] id found = found ≡ None
IsFirst (pair ∷ pairs) id found = ((pair.0 ≡ id) × (found ≡ Some pair.1)) ⊎ ((pair.0 ≢ id) × IsFirst pairs id found)

-- the table has the trees of the list; the null ids and the ids of the empty tree are excepted: they are equal in every
-- table
abbrev pub IsTableOf : Table → List Pair → Type 0
IsTableOf T pairs = (id : ObjectId) → IsFalse (is_null id) → ((hash : Kind) → id ≢ id_of hash Tree [])
    → IsFirst pairs id (T.tree_at id)

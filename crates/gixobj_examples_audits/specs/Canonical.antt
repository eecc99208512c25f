-- Canonical trees, which their files determine, and tables that agree with two stores.
use Rattle.std.specs.Prelude.{◌≡◌, ◌≢◌, ◌⊎◌, ◌-◌, ℕ, Bool, zero, suc, IsFalse, IsTrue, List, [], ◌∷◌, MatchOption, Some}
use Rattle.std.specs.Prelude.{slice_get, take}
use Rattle.std.specs.List.{AllByRecursion}
use Rattle.gix_object.specs.Entries.{EntryView}
use Rattle.gix_object.specs.Files.{Path, Table, Trees, is_null}
use Rattle.gix_object.specs.Hash.{id_kind, id_of}
use Rattle.gix_object.specs.Mode.{is_tree_mode, tree_type}
use Rattle.gix_object.specs.Openings.{OfTrees}
use Rattle.gix_object.specs.Stores.{Objects}
use Rattle.gix_object.specs.Tables.{AgreesWithStore, IsNeverLookedUp}
use Rattle.gix_object.specs.WellFormed.{IsWellFormed}
use Rattle.gix_object.specs.hash.hash.kind.Kind.{Kind}
use Rattle.gix_object.specs.hash.hash.object_id.ObjectId.{ObjectId}
use Rattle.gix_object.specs.hash.kind.Kind.TheVariants.{Tree}
use Rattle.gixobj_listings.specs.Listings.{IsDirectory}
use Rattle.gixobj_listings.specs.Roots.{IsRoot, IsRootError}
use Rattle.gixobj_listings.specs.declared.roots.RootError.{RootError}

-- the id names a tree with entries in the store, and the tree has this property
pub record NamesFilledTree (trees : Trees) (IsIts : List EntryView → Type 0) (id : ObjectId) : Type 0 where
  pub looked_up : ¬ IsNeverLookedUp id
  pub tree : MatchOption (trees id) ⊥ (λ entries. (entries ≢ []) × IsIts entries)

-- a directory has the mode 040000, and an id of this kind
abbrev pub IsPlainDirectory : Kind → EntryView → Type 0
IsPlainDirectory hash e = (e.mode ≡ tree_type) × (id_kind e.id ≡ hash)

-- an entry with an id that isn't null; the id of a directory names a tree with entries, which has this property
abbrev pub IsCanonicalEntry : Trees → Kind → (List EntryView → Type 0) → EntryView → Type 0
IsCanonicalEntry trees hash IsIts e = IsFalse (is_null e.id)
    × (IsTrue (is_tree_mode e.mode) → IsPlainDirectory hash e × NamesFilledTree trees IsIts e.id)

-- a well-formed tree of canonical entries, whose directories are so too; at most `n` trees are on a path
abbrev pub IsCanonicalTree : Trees → Kind → ℕ → List EntryView → Type 0
IsCanonicalTree trees hash zero entries = ⊥
IsCanonicalTree trees hash (suc n) entries = IsWellFormed entries
    × AllByRecursion (IsCanonicalEntry trees hash (IsCanonicalTree trees hash n)) entries

-- the id names a canonical tree with entries in the store
abbrev pub NamesCanonical : Trees → Kind → ℕ → ObjectId → Type 0
NamesCanonical trees hash n id = NamesFilledTree trees (IsCanonicalTree trees hash n) id

-- the id is of the kind; it is that of the empty tree, or names a canonical tree in the store
abbrev pub IsCanonicalRoot : Trees → Kind → ℕ → ObjectId → Type 0
IsCanonicalRoot trees hash n id = (id_kind id ≡ hash)
    × ((id ≡ id_of hash Tree []) ⊎ NamesCanonical trees hash n id)

-- the first `count` entries are canonical, with at most `n` trees on a path
abbrev pub AreCanonicalBefore : Objects → Kind → ℕ → ℕ → List EntryView → Type 0
AreCanonicalBefore objects hash n count entries = OfTrees objects (λ trees.
    AllByRecursion (IsCanonicalEntry trees hash (IsCanonicalTree trees hash n)) (take count entries))

-- the error of the tree at this path, below the tree with this id. Each tree on the path is looked up, as a plain
-- directory, and there are at most `depth`. The entries before the path's are canonical
abbrev pub IsUnreadAt : Objects → (ObjectId → Bool) → Kind → ℕ → ObjectId → Path → RootError → Type 0
IsUnreadAt objects may_fail hash depth id [] error = (depth ≢ 0) × (¬ IsNeverLookedUp id)
    × IsRootError objects may_fail id error
IsUnreadAt objects may_fail hash depth id (name ∷ path) error = (depth ≢ 0) × (¬ IsNeverLookedUp id)
    × ((entries : List EntryView) × (count : ℕ) × (e : EntryView) × IsRoot objects id entries
    × (slice_get entries count ≡ Some e) × (e.name ≡ name) × IsDirectory e × IsPlainDirectory hash e
    × AreCanonicalBefore objects hash (depth - 1) count entries
    × IsUnreadAt objects may_fail hash (depth - 1) e.id path error)

-- the error of the first tree that isn't read, at or below the tree with this id; the entries before it are canonical
abbrev pub IsUnreadBelow : Objects → (ObjectId → Bool) → Kind → ℕ → ObjectId → RootError → Type 0
IsUnreadBelow objects may_fail hash depth root error = (path : Path)
    × IsUnreadAt objects may_fail hash depth root path error

-- the table agrees with both stores, and no tree has two ids of one kind in it
pub record AgreesWithBoth (T : Table) (trees others : Trees) : Type 0 where
  pub one_store : AgreesWithStore T trees
  pub other_store : AgreesWithStore T others
  pub one_id : (tree : List EntryView) (x y : ObjectId) → id_kind x ≡ id_kind y → T.tree_at x ≡ Some tree
      → T.tree_at y ≡ Some tree → x ≡ y

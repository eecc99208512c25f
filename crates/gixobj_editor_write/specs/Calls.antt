-- Names of paths, trees that may be emitted, and closures that emit them.
use Rattle.std.specs.Prelude.{List, Err, Ok, Result}
use Rattle.std.specs.Fn.{CalledAt, Mut}
use Rattle.std.specs.List.{FoldsTo}
use denote.Ref.{Bor}
use Rattle.gixobj_tree_entries.specs.Entries.{EntryView, Pair}
use Rattle.gixobj_hash.specs.declared.hash.object_id.ObjectId.{ObjectId}
pub use Rattle.gixobj_editor_open.specs.Paths.{AreNames, names_of}
pub use Rattle.gixobj_editor_open.specs.Storable.{IsStorable}

-- the closure may be called on each tree that may be emitted, now and after any calls that it answered with ids
abbrev pub IsCallableOnTrees : {F : Type 0} → (F → Bor (List EntryView) → Type 0) → (F → Pair → F → Type 0) → F → Type 0
IsCallableOnTrees {F} pre gave out = (pairs : List Pair) (state : F) → FoldsTo gave out pairs state
    → (tree : Bor (List EntryView)) → IsStorable tree.now → pre state tree

-- a call on the tree of the pair returned the id of the pair
abbrev pub answered : {F E : Type 0} → Mut F (Bor (List EntryView) × Unit {0}) (Result ObjectId E) → F → Pair → F
    → Type 0
answered of before pair after = CalledAt of before pair.1 (Ok pair.0) after

-- a call on the tree returned this error
abbrev pub denied : {F E : Type 0} → Mut F (Bor (List EntryView) × Unit {0}) (Result ObjectId E) → F → List EntryView
    → E → F → Type 0
denied of before tree error after = CalledAt of before tree (Err error) after

-- First parents, and trees of commits.
use Rattle.std.proofs.Common.{◌≡◌, ◌+◌, ◌∷◌, ℕ, IfErr, List, [], Result, Ok, Err, arith, refl, subst, suc, sym}
use Rattle.std.specs.Prelude.{IsErrAnd}
use Rattle.std.specs.List.{AllZip}
use Rattle.gix_object.specs.EntrySteps.{IsAtEntry}
use Rattle.gix_object.specs.Hash.{DecodesToId}
use Rattle.gix_object.specs.Lookups.{remaining_tree}
use Rattle.gix_object.specs.Stores.{Objects, StoredObject}
use Rattle.gix_object.specs.hash.hash.object_id.ObjectId.{ObjectId}
use Rattle.gix_object.specs.hash.kind.Kind.TheVariants.{Tree}
use Rattle.gix_object.specs.store.tree.TreeRefIter.{TreeRefIter}
use Rattle.gixobj_examples_edits.specs.Ancestors.{IsAncestor, IsFirstParent}

pub first_hex_of_id : (hexes : List (List ℕ)) (ids : List ObjectId) (id : ObjectId) (more : List ObjectId) → AllZip DecodesToId hexes ids → ids ≡ id ∷ more
    → (hex : List ℕ) × (others : List (List ℕ)) × (hexes ≡ hex ∷ others) × DecodesToId hex id
first_hex_of_id [] [] id more spelled split = cc split
first_hex_of_id [] (x ∷ ids) id more spelled split = absurd spelled
first_hex_of_id (hex ∷ hexes) [] id more spelled split = absurd spelled
first_hex_of_id (hex ∷ hexes) (x ∷ ids) id more spelled split = let same : x ≡ id = cc split in (hex, hexes, refl, rw (sym same) spelled.0)

pub none_hex_of_id : (hexes : List (List ℕ)) (ids : List ObjectId) → AllZip DecodesToId hexes ids → ids ≡ [] → hexes ≡ []
none_hex_of_id [] [] spelled none = refl
none_hex_of_id [] (x ∷ ids) spelled none = refl
none_hex_of_id (hex ∷ hexes) [] spelled none = absurd spelled
none_hex_of_id (hex ∷ hexes) (x ∷ ids) spelled none = cc none

pub remaining_tree_at_start : (reader : TreeRefIter) (tree : StoredObject) → tree.kind ≡ Tree → IsAtEntry tree.object_hash tree.bytes reader
    → remaining_tree reader ≡ tree
remaining_tree_at_start reader tree kind start i = record { kind = sym kind i; object_hash = (start i).kind; bytes = (start i).bytes }

-- the first parent of an ancestor is an ancestor one generation earlier
pub is_ancestor_succ : (objects : Objects) (n : ℕ) (start child id : ObjectId) → IsAncestor objects n start child → IsFirstParent objects child id
    → IsAncestor objects (n + 1) start id
is_ancestor_succ objects n start child id before parent = let one : suc n ≡ n + 1 = omega arith in subst (λ (m : ℕ). IsAncestor objects m start id) one
    (child, before, parent)

-- a property of an error, from an equal error
pub if_err_of : {A E : Type 0} (r : Result A E) (e : E) (P : E → Type 0) → IsErrAnd r (λ x. x ≡ e) → P e → IfErr r P
if_err_of (Ok x) e P is p = tt
if_err_of (Err x) e P is p = subst P (sym is) p

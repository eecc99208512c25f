-- Object stores that keep their objects in lists or maps, by id: for the store in memory and the editor's laws.
use Rattle.std.proofs.Common.{◌≡◌, ◌≢◌, ◌∷◌, ℕ, Bool, true, false, List, [], Some, ap, map, refl, sym, ◌∙◌}
use Rattle.std.specs.Prelude.{Option, cond}
use Rattle.std.specs.BTreeMap.{is_at}
use Rattle.std.specs.Cmp.{eq_by_cmp_equiv}
use Rattle.std.specs.Cmp.Lexicographic.{slice_cmp}
use Rattle.std.specs.FinMap as finite
use Rattle.std.specs.FinMap.{IsAntisymmetric, find, nat_cmp-IsAntisymmetric, slice_cmp-IsAntisymmetric}
use Rattle.std.specs.Map.{lookup}
use Rattle.std.specs.Option.{option_map}
use Rattle.std.specs.Ordering.{eq_by_cmp, is_eq, nat_cmp, ordering_then}
use Rattle.std.specs.declared.cmp.Ordering.{Ordering}
use Rattle.std.specs.declared.cmp.Ordering.TheVariants.{Less, Equal, Greater}
use Rattle.gixobj_hash.specs.Hash.Order.{id_cmp}
use Rattle.gixobj_hash.specs.Hash.OrderLaws.{id_cmp_total}
use Rattle.gixobj_hash.specs.declared.hash.object_id.ObjectId.{ObjectId}
use Rattle.gixobj_hash.specs.declared.hash.object_id.ObjectId.TheVariants.{Sha1, Sha256}
use Rattle.gixobj_store.specs.Stores.{Objects, StoredObject, named}

equal_of_ordering_then_equal : (o : Ordering) → ordering_then o Equal ≡ Equal → o ≡ Equal
equal_of_ordering_then_equal Less same = same
equal_of_ordering_then_equal Equal same = refl
equal_of_ordering_then_equal Greater same = same

ordering_then_less_ne_equal : (o : Ordering) → ¬ (ordering_then o Less ≡ Equal)
ordering_then_less_ne_equal Less same = cc same
ordering_then_less_ne_equal Equal same = cc same
ordering_then_less_ne_equal Greater same = cc same

ordering_then_greater_ne_equal : (o : Ordering) → ¬ (ordering_then o Greater ≡ Equal)
ordering_then_greater_ne_equal Less same = cc same
ordering_then_greater_ne_equal Equal same = cc same
ordering_then_greater_ne_equal Greater same = cc same

slice_cmp_antisymmetric : (a b : List ℕ) → slice_cmp nat_cmp a b ≡ Equal → a ≡ b
slice_cmp_antisymmetric = slice_cmp-IsAntisymmetric nat_cmp-IsAntisymmetric

-- two ids that compare as equal are the same id
pub id_cmp_antisymmetric : IsAntisymmetric id_cmp
id_cmp_antisymmetric (Sha1 a) (Sha1 b) same = ap Sha1 (slice_cmp_antisymmetric a b (equal_of_ordering_then_equal (slice_cmp nat_cmp a b) same))
id_cmp_antisymmetric (Sha256 a) (Sha256 b) same = ap Sha256 (slice_cmp_antisymmetric a b (equal_of_ordering_then_equal (slice_cmp nat_cmp a b) same))
id_cmp_antisymmetric (Sha1 a) (Sha256 b) same = absurd (ordering_then_less_ne_equal (slice_cmp nat_cmp a b) same)
id_cmp_antisymmetric (Sha256 a) (Sha1 b) same = absurd (ordering_then_greater_ne_equal (slice_cmp nat_cmp a b) same)

option_map_view_cond : {X : Type 0} (view : X → StoredObject) (b : Bool) (x : X) (rest : Option X) (same : Option StoredObject) → same ≡ option_map view rest
    → cond b (Some (view x)) same ≡ option_map view (cond b (Some x) rest)
option_map_view_cond view true x rest same is = refl
option_map_view_cond view false x rest same is = is

find_map_view_eq_lookup : {X : Type 0} (view : X → StoredObject) (q : ObjectId) (pairs : List (ObjectId × X))
    → find id_cmp q (map (λ pair. (pair.0, view pair.1)) pairs) ≡ option_map view (lookup (is_at (id_cmp q)) pairs)
find_map_view_eq_lookup view q [] = refl
find_map_view_eq_lookup view q (pair ∷ pairs) = option_map_view_cond view (eq_by_cmp id_cmp q pair.0) pair.1 (lookup (is_at (id_cmp q)) pairs)
    (find id_cmp q (map (λ pair. (pair.0, view pair.1)) pairs)) (find_map_view_eq_lookup view q pairs)

-- in a list of objects an id names the first object listed with it
pub named_from_entries : {X : Type 0} (view : X → StoredObject) (q : ObjectId) (pairs : List (ObjectId × X))
    → named (finite.from_entries (map (λ pair. (pair.0, view pair.1)) pairs)) q ≡ option_map view (lookup (is_at (id_cmp q)) pairs)
named_from_entries view q pairs = finite.get-from_entries id_cmp_total (map (λ pair. (pair.0, view pair.1)) pairs) q ∙ find_map_view_eq_lookup view q pairs

-- a map of objects that differs at one id is the insertion of an object at this id
pub is_insert_of_map_insert : (before after : Objects) (id : ObjectId) (it : StoredObject)
    → ((q : ObjectId) → named after q ≡ cond (is_at (id_cmp id) q) (Some it) (named before q)) → after ≡ finite.insert before id it
is_insert_of_map_insert before after id it changed =
    finite.same_map id_cmp_total id_cmp_antisymmetric after (finite.insert before id it)
    (λ q. changed q ∙ ap (λ (b : Bool). cond b (Some it) (named before q)) ((eq_by_cmp_equiv id_cmp_total).symm id q)
    ∙ sym (finite.get-insert id_cmp_total before id it q))

equal_of_is_eq : (o : Ordering) → is_eq o ≡ true → o ≡ Equal
equal_of_is_eq Less same = cc same
equal_of_is_eq Equal same = refl
equal_of_is_eq Greater same = cc same

pub named_insert_same : (objects : Objects) (id : ObjectId) (it : StoredObject) → named (finite.insert objects id it) id ≡ Some it
named_insert_same objects id it = finite.get-insert id_cmp_total objects id it id ∙ ap (λ (b : Bool). cond b (Some it) (named objects id))
    ((eq_by_cmp_equiv id_cmp_total).refl id)

eq_by_cmp_false_of_ne : (id other : ObjectId) → other ≢ id → (b : Bool) → eq_by_cmp id_cmp other id ≡ b → b ≡ false
eq_by_cmp_false_of_ne id other differ true same = absurd (differ (id_cmp_antisymmetric other id (equal_of_is_eq (id_cmp other id) same)))
eq_by_cmp_false_of_ne id other differ false same = refl

pub named_insert_other : (objects : Objects) (id other : ObjectId) (it : StoredObject) → other ≢ id
    → named (finite.insert objects id it) other ≡ named objects other
named_insert_other objects id other it differ = finite.get-insert id_cmp_total objects id it other ∙ ap (λ (b : Bool). cond b (Some it) (named objects other))
    (eq_by_cmp_false_of_ne id other differ (eq_by_cmp id_cmp other id) refl)

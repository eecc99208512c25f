-- The number of the objects of the store in memory, and their ids in order.
use Rattle.std.proofs.Common.{◌≡◌, ◌↔◌, ◌&&◌, ◌∷◌, Bool, true, false, T, List, [], ap, length, map, refl, subst, sym, ◌∙◌}
use Rattle.std.proofs.lemmas.List.{length-map}
use Rattle.std.specs.BTreeMap.{IsOrdered, btree_map_len, keys}
use Rattle.std.specs.Cmp.{IsTotalOrder}
use Rattle.std.specs.FinMap as finite
use Rattle.std.specs.FinMap.{IsAntisymmetric, is_sorted}
use Rattle.std.specs.FinMap.Entries.{below_all}
use Rattle.std.specs.List.{AllByRecursion}
use Rattle.std.specs.List.Sorted.{IsStrictlySortedBy}
use Rattle.std.specs.Ordering.{is_lt}
use Rattle.std.specs.declared.cmp.Ordering.{Ordering}
use Rattle.std.specs.declared.cmp.Ordering.TheVariants.{Less}
use Rattle.gixobj_hash.specs.Hash.Order.{id_cmp}
use Rattle.gixobj_hash.specs.Hash.OrderLaws.{id_cmp_total}
use Rattle.gixobj_hash.specs.declared.hash.object_id.ObjectId.{ObjectId}
use Rattle.gixobj_store.proofs.Keeping.{id_cmp_antisymmetric}
use Rattle.gixobj_store.specs.Stores.{Objects, StoredObject}
use Rattle.gixobj_store_keep.specs.Memory.{memory_objects, stored_object}
use Rattle.gixobj_store_keep.specs.declared.memory.Memory.{Memory}
use Rattle.gixobj_store_keep.specs.declared.memory.Stored.{Stored}

both_true : (a b : Bool) → T a → T b → T (a && b)
both_true true b is also = also
both_true false b is also = absurd is

is_lt_of_less : (o : Ordering) → o ≡ Less → T (is_lt o)
is_lt_of_less o less = rw less tt

-- a key that is less than each of a list is below all entries of these keys
below_all_of_keys : {K X : Type 0} (R : K → K → Ordering) (k : K) (es : List (K × X)) → AllByRecursion (λ q. R k q ≡ Less) (map (λ e. e.0) es)
    → T (below_all R k es)
below_all_of_keys R k [] less = tt
below_all_of_keys R k (e ∷ es) less = both_true (is_lt (R k e.0)) (below_all R k es) (is_lt_of_less (R k e.0) less.0) (below_all_of_keys R k es less.1)

is_sorted_of_keys : {K X : Type 0} (R : K → K → Ordering) (es : List (K × X)) → IsStrictlySortedBy R (map (λ e. e.0) es) → T (is_sorted R es)
unfolding IsStrictlySortedBy
is_sorted_of_keys R [] sorted = tt
is_sorted_of_keys R (e ∷ es) sorted = both_true (below_all R e.0 es) (is_sorted R es) (below_all_of_keys R e.0 es sorted.0) (is_sorted_of_keys R es sorted.1)

-- a map of a list with ascending keys has the entries of the list
entries_from_entries : {K X : Type 0} {R : K → K → Ordering} → IsTotalOrder R → IsAntisymmetric R → (es : List (K × X))
    → IsStrictlySortedBy R (map (λ e. e.0) es)
    → finite.entries (finite.from_entries {R = R} es) ≡ es
entries_from_entries {R = R} total antisymmetric es sorted =
    let is = is_sorted_of_keys R es sorted in
    ap finite.entries (finite.same_map total antisymmetric (finite.from_entries es) (finite.from_sorted es)
    (λ q. finite.get-from_entries total es q ∙ sym (finite.get-from_sorted R es q is)))
    ∙ finite.entries-from_sorted R es is

-- the view of the values leaves the keys unchanged
keys_map_view : (pairs : List (ObjectId × Stored))
    → map (λ (e : ObjectId × StoredObject). e.0) (map (λ pair. (pair.0, stored_object pair.1)) pairs) ≡ map (λ e. e.0) pairs
keys_map_view [] = refl
keys_map_view (pair ∷ pairs) = ap (λ (rest : List ObjectId). pair.0 ∷ rest) (keys_map_view pairs)

module _ (store : Memory) (ordered : IsOrdered id_cmp store.objects) where
  entries_memory_objects : finite.entries (memory_objects store) ≡ map (λ pair. (pair.0, stored_object pair.1)) store.objects.entries
  entries_memory_objects = entries_from_entries id_cmp_total id_cmp_antisymmetric (map (λ pair. (pair.0, stored_object pair.1)) store.objects.entries)
      (subst (IsStrictlySortedBy id_cmp) (sym (keys_map_view store.objects.entries)) ordered)

  -- the ids of the objects are the keys of the map, in order
  pub keys_memory_objects : finite.keys (memory_objects store) ≡ keys store.objects
  keys_memory_objects = ap (map (λ (e : ObjectId × StoredObject). e.0)) entries_memory_objects ∙ keys_map_view store.objects.entries

  -- the number of objects is that of the entries of the map
  pub len_memory_objects : finite.len (memory_objects store) ≡ btree_map_len store.objects
  len_memory_objects = finite.len-entries (memory_objects store) ∙ ap length entries_memory_objects
      ∙ length-map store.objects.entries (λ (pair : ObjectId × Stored). (pair.0, stored_object pair.1))

-- a map without objects is empty
pub objects_len_zero_iff : (objects : Objects) → (finite.len objects ≡ 0) ↔ (objects ≡ finite.empty)
objects_len_zero_iff objects = (finite.empty_of_len objects, λ empty. ap finite.len empty ∙ finite.len-empty id_cmp StoredObject)

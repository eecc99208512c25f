-- Lists compared element by element, through a view of each.
use Rattle.std.proofs.Common.{◌≡◌, ◌<◌, ◌≤◌, ◌+◌, ◌++◌, ℕ, Bool, List, [], ◌∷◌, ap, arith, get_or, length, map, refl, sym, take, ◌∙◌}
use Rattle.std.proofs.lemmas.List.{get_or-map, length-map, take_more}
use Rattle.std.specs.Cmp.Derive.Mapped.{pointwise-map}
use Rattle.std.specs.Cmp.Lexicographic.{pointwise, slice_cmp}
use Rattle.std.specs.Ordering.{on, ordering_then}
use Rattle.std.specs.declared.cmp.Ordering.{Ordering}
use Rattle.gixobj_tree_entries.specs.EntryOrder.{same_entry, same_tree}
use Rattle.gixobj_tree_entries.specs.EntryViews.{entry_view}
use Rattle.gixobj_tree_entries.specs.declared.entry_ref.EntryRef.{EntryRef}

pub slice_cmp_map_view : {X Y : Type 0} (view : X → Y) (R : Y → Y → Ordering) (xs ys : List X) → slice_cmp (on view R) xs ys ≡ slice_cmp R (map view xs)
    (map view ys)
slice_cmp_map_view view R [] [] = refl
slice_cmp_map_view view R [] (y ∷ ys) = refl
slice_cmp_map_view view R (x ∷ xs) [] = refl
slice_cmp_map_view view R (x ∷ xs) (y ∷ ys) = ap (ordering_then (R (view x) (view y))) (slice_cmp_map_view view R xs ys)

-- entries that are equal one by one are the same tree
pub same_tree_map_view : (xs ys : List EntryRef) (same : Bool) → same ≡ pointwise (λ x y. same_entry (entry_view x) (entry_view y)) xs ys
    → same ≡ same_tree (map entry_view xs) (map entry_view ys)
same_tree_map_view xs ys same is = is ∙ sym (pointwise-map entry_view same_entry xs ys)

-- the view of an element is the element of the views at its position
pub map_view_at : {X Y : Type 0} (view : X → Y) (xs : List X) (i : ℕ) (x : X) → i < length xs → x ≡ get_or xs i x → view x ≡ get_or (map view xs) i (view x)
map_view_at view xs i x low is = ap view is ∙ sym (get_or-map view xs i x (view x) low)

pub map_view_index_lt : {X Y : Type 0} (view : X → Y) (xs : List X) (i : ℕ) → i < length xs → i < length (map view xs)
map_view_index_lt view xs i low = omega (arith, low, length-map xs view)

pub map_view_len_le : {X Y : Type 0} (view : X → Y) (xs : List X) (i : ℕ) → length xs ≤ i → length (map view xs) ≤ i
map_view_len_le view xs i high = omega (arith, high, length-map xs view)

-- the copies of the first elements and that of the next are copies of the first elements
pub take_map_view_snoc : {X Y : Type 0} (view : X → Y) (xs : List X) (i : ℕ) (x : X) (copies : List Y) (copy : Y) → i < length xs → x ≡ get_or xs i x
    → copies ≡ take i (map view xs) → copy ≡ view x → copies ++ copy ∷ [] ≡ take (i + 1) (map view xs)
take_map_view_snoc {Y = Y} view xs i x copies copy low is copied same =
    let there = map_view_at view xs i x low is in
    rw (copied, same) (ap (λ (it : Y). take i (map view xs) ++ it ∷ []) there ∙ sym (take_more (map view xs) i (view x) (map_view_index_lt view xs i low)))

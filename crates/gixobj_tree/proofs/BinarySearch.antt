-- A binary search of borrowed entries by name finds the entry with the key; used by the proofs of `bisect_entry`.
use Rattle.std.proofs.Common.{◌≡◌, ◌+◌, ◌<◌, ◌≤◌, ℕ, Bool, false, List, [], ◌∷◌, Contains, Less, Equal, Greater, Ordering, Result, Ok, Err, ap, arith, get_or}
use Rattle.std.proofs.Common.{length, map, refl, subst, sym, ◌∙◌}
use Rattle.std.proofs.lemmas.List.{get_or-map, get_or_default, length-map}
use Rattle.std.proofs.lemmas.List.Elements.{All-from_recursion}
use Rattle.std.specs.Cmp.Lexicographic.{slice_cmp}
use Rattle.std.specs.List.{HoldsAt}
use Rattle.std.specs.List.Sorted.{IsBinarySearchResult, IsNonDecreasingBy, IsSearchInRange}
use Rattle.std.specs.Ordering.{nat_cmp, ordering_index}
use Rattle.gixobj_hash.specs.ByteStrings.{IsByteFree}
use Rattle.gixobj_tree_entries.proofs.NameKeys.{name_cmp_eq_key_cmp}
use Rattle.gixobj_tree.proofs.WellFormed.{has_key_of_test}
use Rattle.gixobj_tree_entries.proofs.TiedBytes.{eq_of_slice_cmp_equal}
use Rattle.gixobj_tree_entries.specs.Entries.{EntryView}
use Rattle.gixobj_tree_entries.specs.KeyOrder.{entry_key, key_of, name_cmp}
use Rattle.gixobj_tree.specs.WellFormed.{HasKey, IsEntryName, IsWellFormed}
use Rattle.gixobj_tree_entries.specs.Mode.{is_tree_mode}

module _ {X Y : Type 0} (view : X → Y) (cmp : X → Ordering) (R : Y → Ordering) where
  -- the comparisons are those of the views
  abbrev AnswersAs : List X → Type 0
  AnswersAs xs = (i : ℕ) (d : X) → i < length xs → cmp (get_or xs i d) ≡ R (view (get_or xs i d))

  seen_at : (x : X) (xs : List X) → AnswersAs (x ∷ xs) → (i : ℕ) (d : Y) → i < length (x ∷ xs)
      → R (get_or (map view (x ∷ xs)) i d) ≡ cmp (get_or (x ∷ xs) i x)
  seen_at x xs same i d low = ap R (get_or-map view (x ∷ xs) i x d low) ∙ sym (same i x low)

  seen_at_any : (x : X) (xs : List X) → AnswersAs (x ∷ xs) → (i : ℕ) (d : X) → i < length (x ∷ xs)
      → cmp (get_or (x ∷ xs) i d) ≡ R (get_or (map view (x ∷ xs)) i (view x))
  seen_at_any x xs same i d low = same i d low ∙ ap R (sym (get_or-map view (x ∷ xs) i d (view x) low))

  -- a binary search of a list is one of the list's views
  pub seen : (xs : List X) (r : Result ℕ ℕ) → AnswersAs xs → IsSearchInRange r (length xs) → IsBinarySearchResult cmp xs r
      → IsBinarySearchResult R (map view xs) r
  seen [] (Ok i) same range is = absurd (omega (arith, range))
  seen [] (Err i) same range is = λ rising. (λ k d a b. absurd (omega (arith, b, range)), λ k d a b. absurd (omega (arith, b)))
  seen (x ∷ xs) (Ok i) same range is = λ d. seen_at x xs same i d range ∙ is x
  seen (x ∷ xs) (Err i) same range is = λ rising.
      let n : length (map view (x ∷ xs)) ≡ length (x ∷ xs) = length-map (x ∷ xs) view in
      let split = is (λ i j d low high. rw (seen_at_any x xs same i d (omega (arith, low, high)), seen_at_any x xs same j d high)
      (rising i j (view x) low (omega (arith, n, high)))) in (
        λ k d a b. seen_at x xs same k d (omega (arith, b, range)) ∙ split.0 k x a b,
        λ k d a b. seen_at x xs same k d (omega (arith, b, n)) ∙ split.1 k x a (omega (arith, b, n)),
      )

-- only `Less` ranks lowest, and only `Greater` ranks highest
less_of_index_le_zero : (o : Ordering) → ordering_index o ≤ 0 → o ≡ Less
less_of_index_le_zero Less h = refl
less_of_index_le_zero Equal h = absurd (omega (arith, h))
less_of_index_le_zero Greater h = absurd (omega (arith, h))

greater_of_two_le_index : (o : Ordering) → 2 ≤ ordering_index o → o ≡ Greater
greater_of_two_le_index Less h = absurd (omega (arith, h))
greater_of_two_le_index Equal h = absurd (omega (arith, h))
greater_of_two_le_index Greater h = refl

-- the positions that remain in the search if the comparisons ascend
module _ {X : Type 0} (cmp : X → Ordering) (xs : List X) where
  abbrev Rises : Type 0
  Rises = IsNonDecreasingBy (λ x. ordering_index (cmp x)) xs

  -- each element before `low` is too low, and each from `high` on is too high
  pub record IsNarrowed (low high : ℕ) : Type 0 where
    pub prefix : Rises → (k : ℕ) (d : X) → k < low → cmp (get_or xs k d) ≡ Less
    pub back : Rises → (k : ℕ) (d : X) → high ≤ k → k < length xs → cmp (get_or xs k d) ≡ Greater

  pub looked : (i : ℕ) (x : X) → i < length xs → x ≡ get_or xs i x → (o : Ordering) → cmp x ≡ o → HoldsAt (λ y. cmp y ≡ o) xs i
  looked i x low is o reported = λ d. subst (λ (y : X). cmp y ≡ o) (is ∙ get_or_default xs i x d low) reported

  pub narrowed_all : IsNarrowed 0 (length xs)
  narrowed_all = record { prefix = λ rises k d l. absurd (omega (arith, l)); back = λ rises k d from l. absurd (omega (arith, from, l)) }

  pub narrowed_up : (low high m : ℕ) → m < length xs → HoldsAt (λ x. cmp x ≡ Less) xs m → IsNarrowed low high → IsNarrowed (m + 1) high
  narrowed_up low high m within is narrowed = record {
    prefix = λ rises k d l. less_of_index_le_zero (cmp (get_or xs k d)) (subst (λ (o : Ordering). ordering_index (cmp (get_or xs k d)) ≤ ordering_index o)
        (is d)
        (rises k m d (omega (arith, l)) within));
    back = narrowed.back;
  }

  pub narrowed_down : (low high m : ℕ) → HoldsAt (λ x. cmp x ≡ Greater) xs m → IsNarrowed low high → IsNarrowed low m
  narrowed_down low high m is narrowed = record {
    prefix = narrowed.prefix;
    back = λ rises k d from l. greater_of_two_le_index (cmp (get_or xs k d))
        (subst (λ (o : Ordering). ordering_index o ≤ ordering_index (cmp (get_or xs k d))) (is d)
        (rises m k d from l));
  }

  pub narrowed_none : (i : ℕ) → IsNarrowed i i → IsBinarySearchResult cmp xs (Err i)
  narrowed_none i narrowed = λ rises. ((λ k d a b. narrowed.prefix rises k d b), narrowed.back rises)

module _ {X : Type 0} (view : X → EntryView) (name : List ℕ) (is_dir : Bool) where
  -- the comparison of an element with the name that is searched
  abbrev pub compared : X → Ordering
  compared x = name_cmp (view x).name (is_tree_mode (view x).mode) name is_dir

  abbrev of_key : EntryView → Ordering
  of_key e = slice_cmp nat_cmp (entry_key e) (key_of name is_dir)

  -- names without a slash compare as their keys
  by_key : (xs : List X) → IsWellFormed (map view xs) → IsByteFree 47 name → (i : ℕ) (d : X) → i < length xs
      → compared (get_or xs i d) ≡ of_key (view (get_or xs i d))
  by_key xs formed free i d low =
      let at : get_or (map view xs) i (view d) ≡ view (get_or xs i d) = get_or-map view xs i d (view d) low in
      let named : IsEntryName (get_or (map view xs) i (view d)).name = All-from_recursion (λ e. IsEntryName e.name) (map view xs) formed.names i
      (view d)
      (omega (arith, low, length-map xs view)) in
      let here : IsEntryName (view (get_or xs i d)).name = (let P : EntryView → Type 0 = λ e. IsEntryName e.name in subst P at named) in
      name_cmp_eq_key_cmp (view (get_or xs i d)).name (is_tree_mode (view (get_or xs i d)).mode) name is_dir here.one_name free

  search_by_key : (xs : List X) (r : Result ℕ ℕ) → IsWellFormed (map view xs) → IsByteFree 47 name → IsSearchInRange r (length xs)
      → IsBinarySearchResult compared xs r → IsBinarySearchResult of_key (map view xs) r
  search_by_key xs r formed free range is = seen view compared of_key xs r (by_key xs formed free) range is

  -- the entry that was found is one of the list
  pub found_in : (xs : List X) (i : ℕ) (x : X) → i < length xs → x ≡ get_or xs i x → Contains (map view xs) (view x)
  found_in xs i x low is = (i, omega (arith, low, length-map xs view), get_or-map view xs i x (view x) low ∙ ap view (sym is))

  pub found_equal : (xs : List X) (i : ℕ) (x : X) → x ≡ get_or xs i x → HoldsAt (λ y. compared y ≡ Equal) xs i → compared x ≡ Equal
  found_equal xs i x is held = ap compared is ∙ held x

  pub found_key : (xs : List X) (i : ℕ) (x : X) → i < length xs → x ≡ get_or xs i x → HoldsAt (λ y. compared y ≡ Equal) xs i
      → IsWellFormed (map view xs)
      → IsByteFree 47 name → entry_key (view x) ≡ key_of name is_dir
  found_key xs i x low is held formed free =
      let equal : of_key (view (get_or xs i x)) ≡ Equal = sym (by_key xs formed free i x low) ∙ held x in
      eq_of_slice_cmp_equal (entry_key (view x)) (key_of name is_dir) (ap (λ (y : X). of_key (view y)) is ∙ equal)

  pub none_of_key : (xs : List X) (r : Result ℕ ℕ) (i : ℕ) → r ≡ Err i → IsSearchInRange r (length xs) → IsBinarySearchResult compared xs r
      → IsWellFormed (map view xs) → IsByteFree 47 name → HasKey (map view xs) (key_of name is_dir) → ⊥
  none_of_key xs (Ok k) i is range held formed free = cc is
  none_of_key xs (Err k) i is range held formed free =
      has_key_of_test (map view xs) (key_of name is_dir) (Err k) false refl formed.ascending (omega (arith, range, length-map xs view))
      (search_by_key xs (Err k) formed free range held)

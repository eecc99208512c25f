-- The first position of a test, and what a binary search finds in ascending keys: for the searches of entries, of open
-- directories and of the items of a piece.
use Rattle.std.proofs.Common.{◌≡◌, ◌≢◌, ◌∙◌, ◌+◌, ◌<◌, ◌≤◌, inl, inr, ℕ, zero, suc, Bool, true, false, not, cond, List, [], ◌∷◌, HoldsAt, MatchResult, Some}
use Rattle.std.proofs.Common.{None, Less, Equal, Greater, Ordering, Result, Ok, Err, get_or, length, nat_lt, refl, sym, ap, subst, arith}
use mathlib.Core.Bool.{true≢false}
use Rattle.std.specs.Cmp.Lexicographic.{slice_cmp}
use Rattle.std.specs.List.{find, position, position_or_len, prefix_len, slice_get}
use Rattle.std.specs.List.Sorted.{IsBinarySearchResult, IsSearchInRange, IsSortedBy}
use Rattle.std.specs.Ordering.{is_eq, is_gt, is_lt, nat_cmp, ordering_reverse}
use Rattle.std.proofs.lemmas.Bool.{le-ltb, lt-ltb, ltb-false}
use Rattle.std.proofs.lemmas.Bool.Decides.{leb_tells}
use Rattle.std.proofs.lemmas.Cmp.{nat_list_cmp_total}
use Rattle.std.proofs.lemmas.List.{get_or_default}
use Rattle.std.proofs.lemmas.List.Elements.{All-from_recursion}
use Rattle.std.proofs.lemmas.List.Folds.{find_at}
use Rattle.std.proofs.lemmas.List.Quantifiers.{position-Some}
use Rattle.std.proofs.lemmas.List.Sorted.{searchable_from_sorted}
use Rattle.std.proofs.lemmas.List.Sums.{prefix_len_is}
use Rattle.std.proofs.lemmas.Option.{slice_get-get_or, slice_get_past}
use Rattle.gixobj_tree_entries.proofs.TiedBytes.{eq_of_slice_cmp_equal, slice_cmp_equal_of_eq}
use Rattle.gixobj_tree_entries.specs.KeyOrder.{EachLater}
use Rattle.gixobj_editor_entries.specs.Pieces.{IsAscending, is_before, key_cmp}

-- the first position at which a test passes, and a list in which it never does
module _ {X : Type 0} (p : X → Bool) where
  shown : (n i : ℕ) → i < n → cond (nat_lt i n) (Some i) None ≡ Some i
  shown n i low = ap (λ (b : Bool). cond b (Some i) None) (lt-ltb i n low)

  hidden : (b : Bool) (k : ℕ) → cond b (Some k) None ≡ None → b ≡ false
  hidden true k e = absurd (cc e)
  hidden false k e = refl

  first_is : (xs : List X) (i : ℕ) (d : X) → i < length xs → p (get_or xs i d) ≡ true → ((k : ℕ) → k < i → p (get_or xs k d) ≡ false)
      → position_or_len p xs ≡ i
  first_is xs i d low here before = prefix_len_is (λ x. not (p x)) xs i d (omega arith) (λ k l. ap not (before k l)) (λ l. ap not here)

  pub position_at : (xs : List X) (i : ℕ) (d : X) → i < length xs → p (get_or xs i d) ≡ true → ((k : ℕ) → k < i → p (get_or xs k d) ≡ false)
      → position p xs ≡ Some i
  position_at xs i d low here before = ap (λ (k : ℕ). cond (nat_lt k (length xs)) (Some k) None) (first_is xs i d low here before)
      ∙ shown (length xs) i low

  pub position_none : (xs : List X) → ((k : ℕ) (d : X) → k < length xs → p (get_or xs k d) ≡ false) → position p xs ≡ None
  position_none [] none = refl
  position_none (x ∷ xs) none =
      let n : ℕ = length (x ∷ xs) in
      let is : position_or_len p (x ∷ xs) ≡ n = prefix_len_is (λ y. not (p y)) (x ∷ xs) n x (omega arith) (λ k l. ap not (none k x l))
      (λ l. absurd (omega arith)) in
      ap (λ (k : ℕ). cond (nat_lt k n) (Some k) None) is ∙ ap (λ (b : Bool). cond b (Some n) None) (le-ltb n n (omega arith))

  pub find_some : (xs : List X) (i : ℕ) (d : X) → position p xs ≡ Some i → find p xs ≡ Some (get_or xs i d)
  find_some xs i d is =
      let at = position-Some p xs i d is in
      find_at p xs ∙ ap (slice_get xs) (first_is xs i d at.0 at.1 at.2) ∙ slice_get-get_or xs i d at.0

  pub find_none : (xs : List X) → position p xs ≡ None → find p xs ≡ None
  find_none xs is = find_at p xs ∙ slice_get_past xs (position_or_len p xs)
      (ltb-false _ _ (hidden (nat_lt (position_or_len p xs) (length xs)) (position_or_len p xs) is))

  prefix_is : (xs : List X) (i : ℕ) → i ≤ length xs → ((k : ℕ) (d : X) → k < i → p (get_or xs k d) ≡ true)
      → ((d : X) → i < length xs → p (get_or xs i d) ≡ false) → i ≡ prefix_len p xs
  prefix_is [] i low passes stops = omega arith
  prefix_is (x ∷ xs) i low passes stops = sym (prefix_len_is p (x ∷ xs) i x low (λ k l. passes k x l) (stops x))

pub element_at : {X : Type 0} (xs : List X) (i : ℕ) → i < length xs → X
element_at [] i low = absurd (omega arith)
element_at (x ∷ xs) i low = x

module _ {X : Type 0} (R : X → X → Type 0) where
  pub later_at : (xs : List X) → EachLater R xs → (i j : ℕ) (d : X) → i < j → j < length xs → R (get_or xs i d) (get_or xs j d)
  later_at [] h i j d a b = absurd (omega arith)
  later_at (x ∷ xs) h i zero d a b = absurd (omega arith)
  later_at (x ∷ xs) h zero (suc j) d a b = All-from_recursion (R x) xs h.0 j d (omega arith)
  later_at (x ∷ xs) h (suc i) (suc j) d a b = later_at xs h.1 i j d (omega arith) (omega arith)

-- one order excludes the others
less_ne_equal : (o : Ordering) → o ≡ Less → o ≢ Equal
less_ne_equal o is tie = true≢false (ap is_lt (sym is ∙ tie))

greater_ne_equal : (o : Ordering) → o ≡ Greater → o ≢ Equal
greater_ne_equal o is tie = true≢false (ap is_eq (sym tie ∙ is))

pub less_of_compare : (o : Ordering) → is_lt o ≡ true → o ≡ Less
less_of_compare Less h = refl
less_of_compare Equal h = absurd (true≢false (sym h))
less_of_compare Greater h = absurd (true≢false (sym h))

pub greater_of_compare : (o : Ordering) → true ≡ is_gt o → o ≡ Greater
greater_of_compare Less h = absurd (true≢false h)
greater_of_compare Equal h = absurd (true≢false h)
greater_of_compare Greater h = refl

-- elements whose keys ascend
module _ {X : Type 0} (key : X → List ℕ) where
  sorted : (xs : List X) → IsAscending key xs → IsSortedBy (λ x y. is_lt (slice_cmp nat_cmp (key x) (key y))) xs
  sorted xs up = λ k d low high.
      let next : slice_cmp nat_cmp (key (get_or xs k d)) (key (get_or xs (k + 1) d)) ≡ Less =
      later_at (λ x y. slice_cmp nat_cmp (key x) (key y) ≡ Less) xs up k
      (k + 1) d (omega arith) high in
      ap is_lt (nat_list_cmp_total.antisymm (key (get_or xs (k + 1) d)) (key (get_or xs k d)) ∙ ap ordering_reverse next)

  pub binary_search_key : (xs : List X) (searched : List ℕ) (i : ℕ) (d : X) → HoldsAt (λ x. key_cmp key searched x ≡ Equal) xs i
      → key (get_or xs i d) ≡ searched
  binary_search_key xs searched i d held = eq_of_slice_cmp_equal (key (get_or xs i d)) searched (held d)

  -- each element before one that is less than the searched key is less too; each element after a greater one is greater
  -- too
  pub less_to : (xs : List X) → IsAscending key xs → (searched : List ℕ) (m : ℕ) → m < length xs → HoldsAt (λ x. key_cmp key searched x ≡ Less) xs m
      → (k : ℕ) (d : X)
      → k ≤ m → key_cmp key searched (get_or xs k d) ≡ Less
  less_to xs up searched m low is k d to_m =
      elim (leb_tells m k) [
        | inl same ↦ subst (λ (i : ℕ). key_cmp key searched (get_or xs i d) ≡ Less) (omega (arith, same.1, to_m)) (is d)
        | inr ahead ↦ nat_list_cmp_total.trans (key (get_or xs k d)) (key (get_or xs m d)) searched
            (later_at (λ x y. slice_cmp nat_cmp (key x) (key y) ≡ Less) xs up k m d ahead.1 low) (is d)
      ]

  pub greater_from : (xs : List X) → IsAscending key xs → (searched : List ℕ) (m : ℕ) → HoldsAt (λ x. key_cmp key searched x ≡ Greater) xs m
      → (k : ℕ) (d : X) → m ≤ k → k < length xs → key_cmp key searched (get_or xs k d) ≡ Greater
  greater_from xs up searched m is k d from_m low =
      elim (leb_tells k m) [
        | inl same ↦ subst (λ (i : ℕ). key_cmp key searched (get_or xs i d) ≡ Greater) (omega (arith, same.1, from_m)) (is d)
        | inr ahead ↦
            let above : slice_cmp nat_cmp searched (key (get_or xs m d)) ≡ Less = nat_list_cmp_total.antisymm searched (key (get_or xs m d))
            ∙ ap ordering_reverse (is d) in
            let next : slice_cmp nat_cmp (key (get_or xs m d)) (key (get_or xs k d)) ≡ Less =
            later_at (λ x y. slice_cmp nat_cmp (key x) (key y) ≡ Less) xs up m k d ahead.1 low in
            nat_list_cmp_total.antisymm (key (get_or xs k d)) searched
            ∙ ap ordering_reverse (nat_list_cmp_total.trans searched (key (get_or xs m d)) (key (get_or xs k d)) above next)
      ]

  -- the order of the element at a position holds at that position
  pub looked : (xs : List X) (searched : List ℕ) (i : ℕ) (x : X) → i < length xs → x ≡ get_or xs i x → (o : Ordering) → key_cmp key searched x ≡ o
      → HoldsAt (λ y. key_cmp key searched y ≡ o) xs i
  looked xs searched i x low is o seen = λ d. subst (λ (y : X). key_cmp key searched y ≡ o) (is ∙ get_or_default xs i x d low) seen

  -- the searched key can be at these positions alone
  pub record IsNarrowed (xs : List X) (searched : List ℕ) (low high : ℕ) : Type 0 where
    pub prefix : (k : ℕ) (d : X) → k < low → key_cmp key searched (get_or xs k d) ≡ Less
    pub back : (k : ℕ) (d : X) → high ≤ k → k < length xs → key_cmp key searched (get_or xs k d) ≡ Greater

  pub narrowed_up : (xs : List X) → IsAscending key xs → (searched : List ℕ) (low high m : ℕ) → m < length xs
      → HoldsAt (λ x. key_cmp key searched x ≡ Less) xs m → IsNarrowed xs searched low high → IsNarrowed xs searched (m + 1) high
  narrowed_up xs up searched low high m within is narrowed =
      record { prefix = λ k d l. less_to xs up searched m within is k d (omega (arith, l)); back = narrowed.back }

  pub narrowed_down : (xs : List X) → IsAscending key xs → (searched : List ℕ) (low high m : ℕ) → HoldsAt (λ x. key_cmp key searched x ≡ Greater) xs m
      → IsNarrowed xs searched low high → IsNarrowed xs searched low m
  narrowed_down xs up searched low high m is narrowed =
      record { prefix = narrowed.prefix; back = λ k d from_m l. greater_from xs up searched m is k d from_m l }

  pub narrowed_none : (xs : List X) (searched : List ℕ) (i : ℕ) → IsNarrowed xs searched i i → IsBinarySearchResult (key_cmp key searched) xs (Err i)
  narrowed_none xs searched i narrowed = λ rising. ((λ k d a b. narrowed.prefix k d b), narrowed.back)

  pub binary_search_none : (xs : List X) → IsAscending key xs → (searched : List ℕ) (i : ℕ) → IsBinarySearchResult (key_cmp key searched) xs (Err i)
      → (k : ℕ) (d : X)
      → k < length xs → key (get_or xs k d) ≢ searched
  binary_search_none xs up searched i is k d low same =
      let split = is (searchable_from_sorted nat_list_cmp_total key xs searched (sorted xs up)) in
      let tie : slice_cmp nat_cmp (key (get_or xs k d)) searched ≡ Equal = slice_cmp_equal_of_eq (key (get_or xs k d)) searched same in
      elim (leb_tells i k) [
        | inl after ↦ greater_ne_equal _ (split.1 k d after.1 low) tie
        | inr ahead ↦ less_ne_equal _ (split.0 k d (omega arith) ahead.1) tie
      ]

  pub binary_search_position : (xs : List X) → IsAscending key xs → (searched : List ℕ) (r : Result ℕ ℕ) → IsSearchInRange r (length xs)
      → IsBinarySearchResult (key_cmp key searched) xs r
      → MatchResult r (λ i. i ≡ prefix_len (is_before key searched) xs) (λ i. i ≡ prefix_len (is_before key searched) xs)
  binary_search_position xs up searched (Ok i) range is =
      prefix_is (is_before key searched) xs i (omega arith)
      (λ k d l. ap is_lt (subst (λ (it : List ℕ). slice_cmp nat_cmp (key (get_or xs k d)) it ≡ Less) (binary_search_key xs searched i d is)
      (later_at (λ x y. slice_cmp nat_cmp (key x) (key y) ≡ Less) xs up k i d l range)))
      (λ d l. ap is_lt (is d))
  binary_search_position xs up searched (Err i) range is =
      let split = is (searchable_from_sorted nat_list_cmp_total key xs searched (sorted xs up)) in
      prefix_is (is_before key searched) xs i range (λ k d l. ap is_lt (split.0 k d (omega arith) l)) (λ d l. ap is_lt (split.1 i d (omega arith) l))

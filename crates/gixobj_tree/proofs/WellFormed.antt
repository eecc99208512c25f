-- Well-formed trees: ascending neighbours, binary searches, and entries of one name; used by the proofs of
-- `is_well_formed`, of directories and of files.
use Rattle.std.proofs.Common.{◌≡◌, ◌≢◌, ℕ, zero, suc, ◌+◌, ◌<◌, ◌⊎◌, inl, inr, arith, Bool, true, false, not, List, [], ◌∷◌, ◌++◌, length, get_or, All}
use Rattle.std.proofs.Common.{Contains, MatchBool, HoldsAt, refl, sym, ap, subst, ◌∙◌, Less, Equal, Greater, Ordering, Result, Ok, Err}
use mathlib.Core.Bool.{true≢false}
use Rattle.std.specs.Cmp.Lexicographic.{slice_cmp}
use Rattle.std.specs.List.{AllAdjacentBelow, AllWithin, IsAllAdjacentAnswer}
use Rattle.std.specs.List.Sorted.{IsBinarySearchResult, IsPartitionPoint, IsSearchInRange, IsSortedBy}
use Rattle.std.specs.Ordering.{is_eq, is_lt, nat_cmp, ordering_reverse}
use Rattle.std.specs.Result.{is_ok}
use Rattle.std.proofs.lemmas.Bool.Decides.{leb_tells}
use Rattle.std.proofs.lemmas.Cmp.{nat_list_cmp_total}
use Rattle.std.proofs.lemmas.List.Elements.{All-contains, All-from_recursion, All-weaker, at_from_Contains, Contains-get_or, Contains-push, recursion_from_All}
use Rattle.std.proofs.lemmas.List.Sorted.{searchable_from_sorted}
use Rattle.gixobj_tree_entries.proofs.TiedBytes.{eq_of_slice_cmp_equal, slice_cmp_equal_of_eq}
use Rattle.gixobj_tree_entries.specs.Entries.{EntryView}
use Rattle.gixobj_tree_entries.specs.KeyOrder.{ComesBefore, entry_key, key_of}
use Rattle.gixobj_tree.specs.WellFormed.{AreApart, EachLater, HasKey, HasNamesake, HaveEntryNames, IsEntryName}
use Rattle.gixobj_tree_entries.specs.Mode.{is_tree_mode}
use Rattle.gixobj_hash.specs.ByteStrings.{IsByteFree}

module _ {X : Type 0} (R : X → X → Type 0) where
  later_at : (xs : List X) → EachLater R xs → (i j : ℕ) (d : X) → i < j → j < length xs → R (get_or xs i d) (get_or xs j d)
  later_at [] h i j d a b = absurd (omega arith)
  later_at (x ∷ xs) h i zero d a b = absurd (omega arith)
  later_at (x ∷ xs) h zero (suc j) d a b = All-from_recursion (R x) xs h.0 j d (omega arith)
  later_at (x ∷ xs) h (suc i) (suc j) d a b = later_at xs h.1 i j d (omega arith) (omega arith)

  later_from : (xs : List X) → ((i j : ℕ) (d : X) → i < j → j < length xs → R (get_or xs i d) (get_or xs j d)) → EachLater R xs
  later_from [] f = tt
  later_from (x ∷ xs) f = (
    recursion_from_All (R x) xs (λ k d l. f 0 (suc k) d (omega arith) (omega arith)),
    later_from xs (λ i j d a b. f (suc i) (suc j) d (omega arith) (omega arith)),
  )

  later_from_next : ((x y z : X) → R x y → R y z → R x z) → (xs : List X) → AllAdjacentBelow R xs (length xs) → EachLater R xs
  later_from_next trans [] f = tt
  later_from_next trans (x ∷ []) f = (tt, tt)
  later_from_next trans (x ∷ y ∷ zs) f =
      let next : R x y = f 0 x (omega arith) in
      let step : AllAdjacentBelow R (y ∷ zs) (length (y ∷ zs)) = λ k d l.
      let i = k + 1 in subst (λ (n : ℕ). R (get_or (y ∷ zs) k d) (get_or (x ∷ y ∷ zs) n d)) {x = suc k + 1} {y = suc i} (omega arith)
      (f (suc k) d (omega arith)) in
      let rest : EachLater R (y ∷ zs) = later_from_next trans (y ∷ zs) step in
      let far : All (R x) zs = All-weaker (R y) (R x) (λ z h. trans x y z next h) zs (All-from_recursion (R y) zs rest.0) in
      ((next, recursion_from_All (R x) zs far), rest)

pub comes_before_trans : (x y z : EntryView) → ComesBefore x y → ComesBefore y z → ComesBefore x z
comes_before_trans x y z = nat_list_cmp_total.trans (entry_key x) (entry_key y) (entry_key z)

-- a decision is true if and only if its statement holds
pub iff_of_test : (b : Bool) (P : Type 0) → MatchBool b P (P → ⊥) → (b ≡ true → P) × (P → b ≡ true)
iff_of_test true P h = (λ e. h, λ p. refl)
iff_of_test false P h = (λ e. absurd (true≢false (sym e)), λ p. absurd (h p))

less_of_is_lt : (o : Ordering) → true ≡ is_lt o → o ≡ Less
less_of_is_lt Less e = refl
less_of_is_lt Equal e = absurd (true≢false e)
less_of_is_lt Greater e = absurd (true≢false e)

not_less_of_not_is_lt : (o : Ordering) → false ≡ is_lt o → o ≢ Less
not_less_of_not_is_lt Less e = absurd (true≢false (sym e))
not_less_of_not_is_lt Equal e = λ q. absurd (true≢false (ap is_lt (sym q)))
not_less_of_not_is_lt Greater e = λ q. absurd (true≢false (ap is_lt (sym q)))

-- the result of `is_sorted_by` decides whether the keys ascend
pub each_later_of_test : (entries : List EntryView) (b : Bool)
    → IsAllAdjacentAnswer (λ x y t. t ≡ is_lt (slice_cmp nat_cmp (entry_key x) (entry_key y))) entries b
    → MatchBool b (EachLater ComesBefore entries) (EachLater ComesBefore entries → ⊥)
each_later_of_test entries true h = later_from_next ComesBefore comes_before_trans entries (λ k d l. less_of_is_lt _ (h k d l))
each_later_of_test [] false h = absurd (omega (arith, h.1))
each_later_of_test (e ∷ es) false h = λ up. not_less_of_not_is_lt _ (h.2 e) (later_at ComesBefore (e ∷ es) up h.0 (h.0 + 1) e (omega arith) h.1)

key_not_lt_of_comes_before : (x y : EntryView) → ComesBefore x y → is_lt (slice_cmp nat_cmp (entry_key y) (entry_key x)) ≡ false
key_not_lt_of_comes_before x y h = ap is_lt (nat_list_cmp_total.antisymm (entry_key y) (entry_key x) ∙ ap ordering_reverse h)

is_sorted_by_key_of_ordered : (entries : List EntryView) → EachLater ComesBefore entries
    → IsSortedBy (λ a b. is_lt (slice_cmp nat_cmp (entry_key a) (entry_key b))) entries
is_sorted_by_key_of_ordered entries up = λ k d low high. key_not_lt_of_comes_before (get_or entries k d) (get_or entries (k + 1) d)
    (later_at ComesBefore entries up k (k + 1) d (omega arith) high)

less_ne_equal : (o : Ordering) → o ≡ Less → o ≢ Equal
less_ne_equal o e q = absurd (true≢false (ap is_lt (sym e ∙ q)))

greater_ne_equal : (o : Ordering) → o ≡ Greater → o ≢ Equal
greater_ne_equal o e q = absurd (true≢false (ap is_eq (sym q ∙ e)))

has_key_at : (entries : List EntryView) (key : List ℕ) (i : ℕ) → i < length entries → HoldsAt (λ e. slice_cmp nat_cmp (entry_key e) key ≡ Equal) entries i
    → HasKey entries key
has_key_at [] key i l h = absurd (omega arith)
has_key_at (e ∷ es) key i l h = (get_or (e ∷ es) i e, Contains-get_or (e ∷ es) i e l, eq_of_slice_cmp_equal _ _ (h e))

no_key_at_partition_point : (entries : List EntryView) (key : List ℕ) (i : ℕ) → IsPartitionPoint (λ e. slice_cmp nat_cmp (entry_key e) key ≡ Less)
    (λ e. slice_cmp nat_cmp (entry_key e) key ≡ Greater) entries i → HasKey entries key → ⊥
no_key_at_partition_point entries key i split has =
    let there = has.1 in
    let same : slice_cmp nat_cmp (entry_key (get_or entries there.0 has.0)) key ≡ Equal = slice_cmp_equal_of_eq _ _ (ap entry_key there.2 ∙ has.2) in
    elim (leb_tells i there.0) [
      | inl following ↦ greater_ne_equal _ (split.1 there.0 has.0 following.1 there.1) same
      | inr before ↦ less_ne_equal _ (split.0 there.0 has.0 (omega arith) before.1) same
    ]

pub has_key_of_test : (entries : List EntryView) (key : List ℕ) (r : Result ℕ ℕ) (b : Bool) → b ≡ is_ok r → EachLater ComesBefore entries
    → IsSearchInRange r (length entries)
    → IsBinarySearchResult (λ e. slice_cmp nat_cmp (entry_key e) key) entries r → MatchBool b (HasKey entries key) (HasKey entries key → ⊥)
has_key_of_test entries key (Ok i) true e up range h = has_key_at entries key i range h
has_key_of_test entries key (Ok i) false e up range h = absurd (true≢false (sym e))
has_key_of_test entries key (Err i) true e up range h = absurd (true≢false e)
has_key_of_test entries key (Err i) false e up range h =
    no_key_at_partition_point entries key i (h (searchable_from_sorted nat_list_cmp_total entry_key entries key (is_sorted_by_key_of_ordered entries up)))

-- entries of one name
entry_key_of_kind : (e : EntryView) (is_tree : Bool) → is_tree_mode e.mode ≡ is_tree → entry_key e ≡ key_of e.name is_tree
entry_key_of_kind e is_tree kind = ap (key_of e.name) kind

not_comes_before_same_name : (x y : EntryView) → is_tree_mode x.mode ≡ is_tree_mode y.mode → x.name ≡ y.name → ComesBefore x y → ⊥
not_comes_before_same_name x y kinds names before = less_ne_equal _ before
    (slice_cmp_equal_of_eq _ _ (ap (key_of x.name) kinds ∙ ap (λ n. key_of n (is_tree_mode y.mode)) names))

has_namesake_of_same_name : (entries : List EntryView) (x y : EntryView) (t u : Bool) → is_tree_mode x.mode ≡ t → is_tree_mode y.mode ≡ u → x.name ≡ y.name
    → ComesBefore x y
    → Contains entries x → Contains entries y → HasNamesake entries x ⊎ HasNamesake entries y
has_namesake_of_same_name entries x y true true p q names before in_x in_y = absurd (not_comes_before_same_name x y (p ∙ sym q) names before)
has_namesake_of_same_name entries x y true false p q names before in_x in_y = inl (p, (y, in_y, entry_key_of_kind y false q ∙ sym names))
has_namesake_of_same_name entries x y false true p q names before in_x in_y = inr (q, (x, in_x, entry_key_of_kind x false p ∙ names))
has_namesake_of_same_name entries x y false false p q names before in_x in_y = absurd (not_comes_before_same_name x y (p ∙ sym q) names before)

are_apart_of_no_namesake : (entries : List EntryView) → EachLater ComesBefore entries → AllWithin (λ e. HasNamesake entries e → ⊥) entries 0 (length entries)
    → AreApart entries
are_apart_of_no_namesake entries up none =
    later_from (λ x y. x.name ≢ y.name) entries (λ i j d low high names.
    let x = get_or entries i d in
    let y = get_or entries j d in
    let early : i < length entries = omega arith in
    elim (has_namesake_of_same_name entries x y _ _ refl refl names (later_at ComesBefore entries up i j d low high) (Contains-get_or entries i d early)
    (Contains-get_or entries j d high)) [
      | inl h ↦ none i d (omega arith) early h
      | inr h ↦ none j d (omega arith) high h
    ])

pub no_slash_at_end : (name : List ℕ) → IsByteFree 47 (name ++ 47 ∷ []) → ⊥
no_slash_at_end name free = All-contains (λ it. it ≢ 47) (name ++ 47 ∷ []) 47 free (Contains-push name 47) refl

tree_ne_non_tree : (x y : EntryView) → is_tree_mode x.mode ≡ true → is_tree_mode y.mode ≡ false → x ≢ y
tree_ne_non_tree x y p q e = true≢false (sym p ∙ ap (λ (v : EntryView). is_tree_mode v.mode) e ∙ q)

lt_or_eq_or_gt : (i j : ℕ) → (i < j) ⊎ ((i ≡ j) ⊎ (j < i))
lt_or_eq_or_gt i j = elim (leb_tells i j) [
  | inl below ↦ elim (leb_tells j i) [ inl above ↦ inr (inl (omega arith)) | inr strict ↦ inl strict.1 ]
  | inr above ↦ inr
      (inr above.1)
]

-- no entry's key is the bare name of a tree in a list of distinct names
entry_key_ne_tree_name : (entries : List EntryView) → AreApart entries → (tree other : EntryView) (t : Bool) → is_tree_mode other.mode ≡ t
    → is_tree_mode tree.mode ≡ true
    → IsEntryName tree.name
    → Contains entries tree → Contains entries other → entry_key other ≡ tree.name → ⊥
entry_key_ne_tree_name entries apart tree other true kind is name at_tree at_other same =
    no_slash_at_end other.name (subst (IsByteFree 47) (sym same ∙ entry_key_of_kind other true kind) name.one_name)
entry_key_ne_tree_name entries apart tree other false kind is name at_tree at_other same =
    let names : other.name ≡ tree.name = sym (entry_key_of_kind other false kind) ∙ same in
    let at = at_from_Contains entries tree at_tree in
    let other_at = at_from_Contains entries other at_other in
    let here : (get_or entries at.0 tree).name ≡ tree.name = ap (λ (v : EntryView). v.name) (at.2 tree) in
    let there : (get_or entries other_at.0 tree).name ≡ other.name = ap (λ (v : EntryView). v.name) (other_at.2 tree) in
    elim (lt_or_eq_or_gt at.0 other_at.0) [
      | inl before ↦ later_at (λ x y. x.name ≢ y.name) entries apart at.0 other_at.0 tree before other_at.1 (here ∙ sym names ∙ sym there)
      | inr (inl e) ↦ tree_ne_non_tree tree other is kind (sym (at.2 tree) ∙ ap (λ (n : ℕ). get_or entries n tree) e ∙ other_at.2 tree)
      | inr (inr following) ↦ later_at (λ x y. x.name ≢ y.name) entries apart other_at.0 at.0 tree following at.1 (there ∙ names ∙ sym here)
    ]

pub are_apart_of_test : (entries : List EntryView) (b : Bool) → HaveEntryNames entries → EachLater ComesBefore entries
    → MatchBool b ((k : ℕ) × (k < length entries) × HoldsAt (HasNamesake entries) entries k)
    (AllWithin (λ e. HasNamesake entries e → ⊥) entries 0 (length entries)) → MatchBool (not b) (AreApart entries) (AreApart entries → ⊥)
are_apart_of_test entries false names up h = are_apart_of_no_namesake entries up h
are_apart_of_test [] true names up h = absurd (omega (arith, h.1))
are_apart_of_test (e ∷ es) true names up h = λ are.
    let tree = get_or (e ∷ es) h.0 e in
    let namesake : HasNamesake (e ∷ es) tree = h.2 e in
    entry_key_ne_tree_name (e ∷ es) are tree namesake.1.0 _ refl namesake.0 (names h.0 e h.1) (Contains-get_or (e ∷ es) h.0 e h.1) namesake.1.1 namesake.1.2

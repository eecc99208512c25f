-- Pairs of the entries of two well-formed trees: each entry is in one pair, and those of one key are one pair; used for
-- the comparison.
use Rattle.std.proofs.Common.{◌≡◌, ◌<◌, ◌+◌, ◌⊎◌, ◌∙◌, inl, inr, ℕ, suc, Bool, true, false, List, [], ◌∷◌, ◌++◌, ap, arith, length, refl, subst, sym, Option}
use Rattle.std.proofs.Common.{Some, None}
use Rattle.std.specs.Cmp.Lexicographic.{nat_list_cmp_total, slice_cmp}
use Rattle.std.specs.List.{AllByRecursion}
use Rattle.std.specs.Ordering.{nat_cmp}
use Rattle.std.specs.Prelude.{⊤}
use Rattle.std.specs.declared.cmp.Ordering.TheVariants.{Less}
use Rattle.gix_object.specs.ByteStrings.{IsByteFree}
use Rattle.gix_object.specs.Bytes.{slash}
use Rattle.gix_object.specs.Entries.{EntryView}
use Rattle.gix_object.specs.Files.{ContainsEntry}
use Rattle.gix_object.specs.KeyOrder.{ComesBefore, entry_key, key_of}
use Rattle.gix_object.specs.Mode.{is_tree_mode}
use Rattle.gix_object.specs.WellFormed.{EachLater, IsEntryName}
use Rattle.gixobj_listings.proofs.FileListings.{all_by_recursion_of_has}
use Rattle.gixobj_listings.proofs.Unread.{less_asymmetric}
use Rattle.gixobj_listings.specs.Changes.{EntryPairView, IsAheadOf, Merges, after_alone, before_alone, both, ends}
use Rattle.gixobj_listings.specs.Differences.{IsFirstPair, pair_view}
use Rattle.gixobj_listings.specs.declared.differences.pairs.EntryPair.{EntryPair}

-- the pair is in the list
abbrev pub IsAmongPairs : List EntryPairView → EntryPairView → Type 0
IsAmongPairs [] pair = ⊥
IsAmongPairs (first ∷ pairs) pair = (first ≡ pair) ⊎ IsAmongPairs pairs pair

-- each entry of the lists is in one of the pairs
pub has_pair_of_left : (left right : List EntryView) (pairs : List EntryPairView) → Merges left right pairs → (e : EntryView) → ContainsEntry left e
    → (side : Option EntryView) × IsAmongPairs pairs (Some e, side)
has_pair_of_left left right pairs ends e has = absurd has
has_pair_of_left left right pairs (before_alone x ls rs ps ahead rest) e (inl is) = (None, inl (ap (λ (z : EntryView). (Some z, None)) is))
has_pair_of_left left right pairs (before_alone x ls rs ps ahead rest) e (inr has) =
    let there = has_pair_of_left ls rs ps rest e has in (there.0, inr there.1)
has_pair_of_left left right pairs (after_alone x ls rs ps ahead rest) e has = let there = has_pair_of_left ls rs ps rest e has in (there.0, inr there.1)
has_pair_of_left left right pairs (both x y ls rs ps key rest) e (inl is) = (Some y, inl (ap (λ (z : EntryView). (Some z, Some y)) is))
has_pair_of_left left right pairs (both x y ls rs ps key rest) e (inr has) =
    let there = has_pair_of_left ls rs ps rest e has in (there.0, inr there.1)

pub has_pair_of_right : (left right : List EntryView) (pairs : List EntryPairView) → Merges left right pairs → (e : EntryView) → ContainsEntry right e
    → (side : Option EntryView) × IsAmongPairs pairs (side, Some e)
has_pair_of_right left right pairs ends e has = absurd has
has_pair_of_right left right pairs (before_alone x ls rs ps ahead rest) e has = let there = has_pair_of_right ls rs ps rest e has in (there.0, inr there.1)
has_pair_of_right left right pairs (after_alone x ls rs ps ahead rest) e (inl is) = (None, inl (ap (λ (z : EntryView). (None, Some z)) is))
has_pair_of_right left right pairs (after_alone x ls rs ps ahead rest) e (inr has) =
    let there = has_pair_of_right ls rs ps rest e has in (there.0, inr there.1)
has_pair_of_right left right pairs (both x y ls rs ps key rest) e (inl is) = (Some x, inl (ap (λ (z : EntryView). (Some x, Some z)) is))
has_pair_of_right left right pairs (both x y ls rs ps key rest) e (inr has) =
    let there = has_pair_of_right ls rs ps rest e has in (there.0, inr there.1)

-- an entry ahead of a list in order comes before each entry of the list
pub comes_before_all : (e : EntryView) (es : List EntryView) → IsAheadOf e es → EachLater ComesBefore es → (x : EntryView) → ContainsEntry es x
    → ComesBefore e x
comes_before_all e (first ∷ es) ahead ascending x (inl is) = subst (λ (z : EntryView). ComesBefore e z) is ahead
comes_before_all e (first ∷ es) ahead ascending x (inr has) =
    nat_list_cmp_total.trans (entry_key e) (entry_key first) (entry_key x) ahead (all_by_recursion_of_has (ComesBefore first) es x ascending.0 has)
comes_before_all e [] ahead ascending x has = absurd has

not_before_itself : (x y : EntryView) → entry_key x ≡ entry_key y → ComesBefore x y → ⊥
not_before_itself x y same before =
    let itself : slice_cmp nat_cmp (entry_key x) (entry_key x) ≡ Less =
    subst (λ (key : List ℕ). slice_cmp nat_cmp (entry_key x) key ≡ Less) (sym same) before in
    less_asymmetric (entry_key x) (entry_key x) itself itself

-- entries of one key are one of the pairs
pub equal_keys_are_one_pair : (left right : List EntryView) (pairs : List EntryPairView) → Merges left right pairs → EachLater ComesBefore left
    → EachLater ComesBefore right
    → (x y : EntryView) → ContainsEntry left x → ContainsEntry right y → entry_key x ≡ entry_key y → IsAmongPairs pairs (Some x, Some y)
equal_keys_are_one_pair left right pairs ends left_order right_order x y has other same = absurd has
equal_keys_are_one_pair left right pairs (before_alone e ls rs ps ahead rest) left_order right_order x y (inl is) other same =
    absurd (not_before_itself x y same (subst (λ (z : EntryView). ComesBefore z y) is (comes_before_all e rs ahead right_order y other)))
equal_keys_are_one_pair left right pairs (before_alone e ls rs ps ahead rest) left_order right_order x y (inr has) other same =
    inr (equal_keys_are_one_pair ls rs ps rest left_order.1 right_order x y has other same)
equal_keys_are_one_pair left right pairs (after_alone e ls rs ps ahead rest) left_order right_order x y has (inl is) same =
    absurd (not_before_itself y x (sym same) (subst (λ (z : EntryView). ComesBefore z x) is (comes_before_all e ls ahead left_order x has)))
equal_keys_are_one_pair left right pairs (after_alone e ls rs ps ahead rest) left_order right_order x y has (inr other) same =
    inr (equal_keys_are_one_pair ls rs ps rest left_order right_order.1 x y has other same)
equal_keys_are_one_pair left right pairs (both a b ls rs ps key rest) left_order right_order x y (inl is) (inl also) same =
    inl (λ i. (Some (is i), Some (also i)))
equal_keys_are_one_pair left right pairs (both a b ls rs ps key rest) left_order right_order x y (inl is) (inr other) same =
    absurd (not_before_itself b y (sym key ∙ ap entry_key is ∙ same) (all_by_recursion_of_has (ComesBefore b) rs y right_order.0 other))
equal_keys_are_one_pair left right pairs (both a b ls rs ps key rest) left_order right_order x y (inr has) (inl also) same =
    absurd (not_before_itself a x (key ∙ ap entry_key also ∙ sym same) (all_by_recursion_of_has (ComesBefore a) ls x left_order.0 has))
equal_keys_are_one_pair left right pairs (both a b ls rs ps key rest) left_order right_order x y (inr has) (inr other) same =
    inr (equal_keys_are_one_pair ls rs ps rest left_order.1 right_order.1 x y has other same)

-- the sides of a pair are entries of the lists
abbrev pub has_entry_if_some : List EntryView → Option EntryView → Type 0
has_entry_if_some es None = ⊤
has_entry_if_some es (Some e) = ContainsEntry es e

has_entry_if_some_later : (x : EntryView) (es : List EntryView) (side : Option EntryView) → has_entry_if_some es side → has_entry_if_some (x ∷ es) side
has_entry_if_some_later x es None has = tt
has_entry_if_some_later x es (Some e) has = inr has

pub sides_of_pair : (left right : List EntryView) (pairs : List EntryPairView) → Merges left right pairs → (before after : Option EntryView)
    → IsAmongPairs pairs (before, after)
    → has_entry_if_some left before × has_entry_if_some right after
sides_of_pair left right pairs ends before after among = absurd among
sides_of_pair left right pairs (before_alone e ls rs ps ahead rest) before after (inl is) =
    subst (λ (pair : EntryPairView). has_entry_if_some (e ∷ ls) pair.0 × has_entry_if_some rs pair.1) is (inl refl, tt)
sides_of_pair left right pairs (before_alone e ls rs ps ahead rest) before after (inr among) =
    let there = sides_of_pair ls rs ps rest before after among in (has_entry_if_some_later e ls before there.0, there.1)
sides_of_pair left right pairs (after_alone e ls rs ps ahead rest) before after (inl is) =
    subst (λ (pair : EntryPairView). has_entry_if_some ls pair.0 × has_entry_if_some (e ∷ rs) pair.1) is (tt, inl refl)
sides_of_pair left right pairs (after_alone e ls rs ps ahead rest) before after (inr among) =
    let there = sides_of_pair ls rs ps rest before after among in (there.0, has_entry_if_some_later e rs after there.1)
sides_of_pair left right pairs (both a b ls rs ps key rest) before after (inl is) =
    subst (λ (pair : EntryPairView). has_entry_if_some (a ∷ ls) pair.0 × has_entry_if_some (b ∷ rs) pair.1) is (inl refl, inl refl)
sides_of_pair left right pairs (both a b ls rs ps key rest) before after (inr among) =
    let there = sides_of_pair ls rs ps rest before after among in
    (has_entry_if_some_later a ls before there.0, has_entry_if_some_later b rs after there.1)

-- ---- an entry is in one pair

not_among_later : (left right : List EntryView) (pairs : List EntryPairView) → Merges left right pairs → (x : EntryView) → AllByRecursion (ComesBefore x) left
    → (side : Option EntryView) → IsAmongPairs pairs (Some x, side)
    → ⊥
not_among_later left right pairs merged x ahead side among =
    not_before_itself x x refl (all_by_recursion_of_has (ComesBefore x) left x ahead (sides_of_pair left right pairs merged (Some x) side among).0)

not_among_later_right : (left right : List EntryView) (pairs : List EntryPairView) → Merges left right pairs → (y : EntryView)
    → AllByRecursion (ComesBefore y) right → (side : Option EntryView) → IsAmongPairs pairs (side, Some y)
    → ⊥
not_among_later_right left right pairs merged y ahead side among =
    not_before_itself y y refl (all_by_recursion_of_has (ComesBefore y) right y ahead (sides_of_pair left right pairs merged side (Some y) among).1)

left_of_pairs : (a x : EntryView) (s t : Option EntryView) → ◌≡◌ {A = EntryPairView} (Some a, s) (Some x, t) → a ≡ x
left_of_pairs a x s t is = cc (ap (λ (pair : EntryPairView). pair.0) is)

pub pair_of_left_is_unique : (left right : List EntryView) (pairs : List EntryPairView) → Merges left right pairs → EachLater ComesBefore left → (x : EntryView)
    → (s t : Option EntryView) → IsAmongPairs pairs (Some x, s) → IsAmongPairs pairs (Some x, t) → s ≡ t
pair_of_left_is_unique left right pairs ends order x s t one other = absurd one
pair_of_left_is_unique left right pairs (before_alone e ls rs ps ahead rest) order x s t (inl is) (inl also) =
    sym (ap (λ (pair : EntryPairView). pair.1) is) ∙ ap (λ (pair : EntryPairView). pair.1) also
pair_of_left_is_unique left right pairs (before_alone e ls rs ps ahead rest) order x s t (inl is) (inr other) =
    absurd (not_among_later ls rs ps rest x (subst (λ (z : EntryView). AllByRecursion (ComesBefore z) ls) (left_of_pairs e x None s is) order.0) t other)
pair_of_left_is_unique left right pairs (before_alone e ls rs ps ahead rest) order x s t (inr one) (inl also) =
    absurd (not_among_later ls rs ps rest x (subst (λ (z : EntryView). AllByRecursion (ComesBefore z) ls) (left_of_pairs e x None t also) order.0) s one)
pair_of_left_is_unique left right pairs (before_alone e ls rs ps ahead rest) order x s t (inr one) (inr other) =
    pair_of_left_is_unique ls rs ps rest order.1 x s t one other
pair_of_left_is_unique left right pairs (after_alone e ls rs ps ahead rest) order x s t (inl is) other =
    absurd (cc (ap (λ (pair : EntryPairView). pair.0) is))
pair_of_left_is_unique left right pairs (after_alone e ls rs ps ahead rest) order x s t (inr one) (inl also) =
    absurd (cc (ap (λ (pair : EntryPairView). pair.0) also))
pair_of_left_is_unique left right pairs (after_alone e ls rs ps ahead rest) order x s t (inr one) (inr other) =
    pair_of_left_is_unique ls rs ps rest order x s t one other
pair_of_left_is_unique left right pairs (both a b ls rs ps key rest) order x s t (inl is) (inl also) =
    sym (ap (λ (pair : EntryPairView). pair.1) is) ∙ ap (λ (pair : EntryPairView). pair.1) also
pair_of_left_is_unique left right pairs (both a b ls rs ps key rest) order x s t (inl is) (inr other) =
    absurd (not_among_later ls rs ps rest x (subst (λ (z : EntryView). AllByRecursion (ComesBefore z) ls) (left_of_pairs a x (Some b) s is) order.0) t other)
pair_of_left_is_unique left right pairs (both a b ls rs ps key rest) order x s t (inr one) (inl also) =
    absurd (not_among_later ls rs ps rest x (subst (λ (z : EntryView). AllByRecursion (ComesBefore z) ls) (left_of_pairs a x (Some b) t also) order.0) s one)
pair_of_left_is_unique left right pairs (both a b ls rs ps key rest) order x s t (inr one) (inr other) =
    pair_of_left_is_unique ls rs ps rest order.1 x s t one other

right_of_pairs : (a y : EntryView) (s t : Option EntryView) → ◌≡◌ {A = EntryPairView} (s, Some a) (t, Some y) → a ≡ y
right_of_pairs a y s t is = cc (ap (λ (pair : EntryPairView). pair.1) is)

pub pair_of_right_is_unique : (left right : List EntryView) (pairs : List EntryPairView) → Merges left right pairs → EachLater ComesBefore right
    → (y : EntryView)
    → (s t : Option EntryView) → IsAmongPairs pairs (s, Some y) → IsAmongPairs pairs (t, Some y) → s ≡ t
pair_of_right_is_unique left right pairs ends order y s t one other = absurd one
pair_of_right_is_unique left right pairs (after_alone e ls rs ps ahead rest) order y s t (inl is) (inl also) =
    sym (ap (λ (pair : EntryPairView). pair.0) is) ∙ ap (λ (pair : EntryPairView). pair.0) also
pair_of_right_is_unique left right pairs (after_alone e ls rs ps ahead rest) order y s t (inl is) (inr other) =
    absurd (not_among_later_right ls rs ps rest y (subst (λ (z : EntryView). AllByRecursion (ComesBefore z) rs) (right_of_pairs e y None s is) order.0) t other)
pair_of_right_is_unique left right pairs (after_alone e ls rs ps ahead rest) order y s t (inr one) (inl also) =
    absurd (not_among_later_right ls rs ps rest y (subst (λ (z : EntryView). AllByRecursion (ComesBefore z) rs) (right_of_pairs e y None t also) order.0) s one)
pair_of_right_is_unique left right pairs (after_alone e ls rs ps ahead rest) order y s t (inr one) (inr other) =
    pair_of_right_is_unique ls rs ps rest order.1 y s t one other
pair_of_right_is_unique left right pairs (before_alone e ls rs ps ahead rest) order y s t (inl is) other =
    absurd (cc (ap (λ (pair : EntryPairView). pair.1) is))
pair_of_right_is_unique left right pairs (before_alone e ls rs ps ahead rest) order y s t (inr one) (inl also) =
    absurd (cc (ap (λ (pair : EntryPairView). pair.1) also))
pair_of_right_is_unique left right pairs (before_alone e ls rs ps ahead rest) order y s t (inr one) (inr other) =
    pair_of_right_is_unique ls rs ps rest order y s t one other
pair_of_right_is_unique left right pairs (both a b ls rs ps key rest) order y s t (inl is) (inl also) =
    sym (ap (λ (pair : EntryPairView). pair.0) is) ∙ ap (λ (pair : EntryPairView). pair.0) also
pair_of_right_is_unique left right pairs (both a b ls rs ps key rest) order y s t (inl is) (inr other) =
    absurd (not_among_later_right ls rs ps rest y (subst (λ (z : EntryView). AllByRecursion (ComesBefore z) rs) (right_of_pairs b y (Some a) s is) order.0) t
    other)
pair_of_right_is_unique left right pairs (both a b ls rs ps key rest) order y s t (inr one) (inl also) =
    absurd (not_among_later_right ls rs ps rest y (subst (λ (z : EntryView). AllByRecursion (ComesBefore z) rs) (right_of_pairs b y (Some a) t also) order.0)
    s one)
pair_of_right_is_unique left right pairs (both a b ls rs ps key rest) order y s t (inr one) (inr other) =
    pair_of_right_is_unique ls rs ps rest order.1 y s t one other

-- ---- keys

snoc_injective : (byte : ℕ) (xs ys : List ℕ) → xs ++ byte ∷ [] ≡ ys ++ byte ∷ [] → xs ≡ ys
snoc_injective byte [] [] same = refl
snoc_injective byte [] (y ∷ []) same = cc same
snoc_injective byte [] (y ∷ z ∷ ys) same = cc same
snoc_injective byte (x ∷ []) [] same = cc same
snoc_injective byte (x ∷ z ∷ xs) [] same = cc same
snoc_injective byte (x ∷ xs) (y ∷ ys) same =
    let rest : xs ++ byte ∷ [] ≡ ys ++ byte ∷ [] = cc same in
    let first : x ≡ y = cc same in
    λ i. first i ∷ snoc_injective byte xs ys rest i

not_byte_free_snoc : (byte : ℕ) (xs : List ℕ) → IsByteFree byte (xs ++ byte ∷ []) → ⊥
not_byte_free_snoc byte [] free = free 0 0 (omega arith) refl
not_byte_free_snoc byte (x ∷ xs) free = not_byte_free_snoc byte xs (λ k d lt. free (suc k) d (omega (arith, lt)))

-- two entries of one key have one name, and both are directories or neither is
equal_keys_by : (xs ys : List ℕ) (x_is_tree y_is_tree : Bool) → IsByteFree slash xs → IsByteFree slash ys → key_of xs x_is_tree ≡ key_of ys y_is_tree
    → (xs ≡ ys) × (x_is_tree ≡ y_is_tree)
equal_keys_by xs ys true true x_free y_free same = (snoc_injective slash xs ys same, refl)
equal_keys_by xs ys false false x_free y_free same = (same, refl)
equal_keys_by xs ys true false x_free y_free same = absurd (not_byte_free_snoc slash xs (subst (IsByteFree slash) (sym same) y_free))
equal_keys_by xs ys false true x_free y_free same = absurd (not_byte_free_snoc slash ys (subst (IsByteFree slash) same x_free))

pub equal_keys_are_alike : (x y : EntryView) → IsEntryName x.name → IsEntryName y.name → entry_key x ≡ entry_key y
    → (x.name ≡ y.name) × (is_tree_mode x.mode ≡ is_tree_mode y.mode)
equal_keys_are_alike x y x_name y_name same =
    equal_keys_by x.name y.name (is_tree_mode x.mode) (is_tree_mode y.mode) x_name.one_name y_name.one_name same

pub alike_have_equal_keys : (x y : EntryView) → x.name ≡ y.name → is_tree_mode x.mode ≡ is_tree_mode y.mode → entry_key x ≡ entry_key y
alike_have_equal_keys x y name kind i = key_of (name i) (kind i)

-- the two entries of a pair have one key
pub pair_has_one_key : (left right : List EntryView) (pairs : List EntryPairView) → Merges left right pairs → (x y : EntryView)
    → IsAmongPairs pairs (Some x, Some y)
    → entry_key x ≡ entry_key y
pair_has_one_key left right pairs ends x y among = absurd among
pair_has_one_key left right pairs (before_alone e ls rs ps ahead rest) x y (inl is) = absurd (cc (ap (λ (pair : EntryPairView). pair.1) is))
pair_has_one_key left right pairs (before_alone e ls rs ps ahead rest) x y (inr among) = pair_has_one_key ls rs ps rest x y among
pair_has_one_key left right pairs (after_alone e ls rs ps ahead rest) x y (inl is) = absurd (cc (ap (λ (pair : EntryPairView). pair.0) is))
pair_has_one_key left right pairs (after_alone e ls rs ps ahead rest) x y (inr among) = pair_has_one_key ls rs ps rest x y among
pair_has_one_key left right pairs (both a b ls rs ps key rest) x y (inl is) =
    sym (ap entry_key (left_of_pairs a x (Some b) (Some y) is)) ∙ key ∙ ap entry_key (right_of_pairs b y (Some a) (Some x) is)
pair_has_one_key left right pairs (both a b ls rs ps key rest) x y (inr among) = pair_has_one_key ls rs ps rest x y among

-- ---- the first pair

merges_as : (left right : List EntryView) (pairs : List EntryPairView) → Merges left right pairs → (left' right' : List EntryView)
    (pairs' : List EntryPairView) → left' ≡ left → right' ≡ right → pairs' ≡ pairs
    → Merges left' right' pairs'
merges_as left right pairs merged left' right' pairs' l r p = rw (l, r, p) merged

-- the first pair, before the pairs of the entries that remain, makes the pairs of the lists
pub merges_of_first_pair : (left right : List EntryView) (pair : EntryPair) → IsFirstPair left right pair → (more : List EntryPairView)
    → Merges pair.left.now pair.right.now more
    → Merges left right (pair_view pair ∷ more)
merges_of_first_pair left right pair (inl (e, is, l, r, ahead)) more rest =
    merges_as (e ∷ pair.left.now) pair.right.now ((Some e, None) ∷ more)
    (before_alone e pair.left.now pair.right.now more (subst (IsAheadOf e) r ahead) rest) left right (pair_view pair ∷ more) l r
    (ap (λ (first : EntryPairView). first ∷ more) is)
merges_of_first_pair left right pair (inr (inl (e, is, l, r, ahead))) more rest =
    merges_as pair.left.now (e ∷ pair.right.now) ((None, Some e) ∷ more)
    (after_alone e pair.left.now pair.right.now more (subst (IsAheadOf e) l ahead) rest) left right (pair_view pair ∷ more) l r
    (ap (λ (first : EntryPairView). first ∷ more) is)
merges_of_first_pair left right pair (inr (inr (e, other, is, l, r, key))) more rest =
    merges_as (e ∷ pair.left.now) (other ∷ pair.right.now) ((Some e, Some other) ∷ more)
    (both e other pair.left.now pair.right.now more key rest) left right (pair_view pair ∷ more) l r (ap (λ (first : EntryPairView). first ∷ more) is)

-- fewer entries remain
pub fewer_after_first_pair : (left right : List EntryView) (pair : EntryPair) → IsFirstPair left right pair
    → length pair.left.now + length pair.right.now < length left + length right
fewer_after_first_pair left right pair (inl (e, is, l, r, ahead)) = omega (arith, ap length l, ap length r)
fewer_after_first_pair left right pair (inr (inl (e, is, l, r, ahead))) = omega (arith, ap length l, ap length r)
fewer_after_first_pair left right pair (inr (inr (e, other, is, l, r, key))) = omega (arith, ap length l, ap length r)

-- a property of each entry, and the order, hold of the entries that remain
pub all_after_first_pair : (P : EntryView → Type 0) (left right : List EntryView) (pair : EntryPair) → IsFirstPair left right pair → AllByRecursion P left
    → AllByRecursion P right → AllByRecursion P pair.left.now × AllByRecursion P pair.right.now
all_after_first_pair P left right pair (inl (e, is, l, r, ahead)) lefts rights = ((subst (AllByRecursion P) l lefts).1, subst (AllByRecursion P) r rights)
all_after_first_pair P left right pair (inr (inl (e, is, l, r, ahead))) lefts rights = (subst (AllByRecursion P) l lefts, (subst (AllByRecursion P) r rights).1)
all_after_first_pair P left right pair (inr (inr (e, other, is, l, r, key))) lefts rights =
    ((subst (AllByRecursion P) l lefts).1, (subst (AllByRecursion P) r rights).1)

pub order_after_first_pair : (left right : List EntryView) (pair : EntryPair) → IsFirstPair left right pair → EachLater ComesBefore left
    → EachLater ComesBefore right → EachLater ComesBefore pair.left.now × EachLater ComesBefore pair.right.now
order_after_first_pair left right pair (inl (e, is, l, r, ahead)) lefts rights =
    ((subst (EachLater ComesBefore) l lefts).1, subst (EachLater ComesBefore) r rights)
order_after_first_pair left right pair (inr (inl (e, is, l, r, ahead))) lefts rights =
    (subst (EachLater ComesBefore) l lefts, (subst (EachLater ComesBefore) r rights).1)
order_after_first_pair left right pair (inr (inr (e, other, is, l, r, key))) lefts rights =
    ((subst (EachLater ComesBefore) l lefts).1, (subst (EachLater ComesBefore) r rights).1)

-- Items before the searched key are less and those after it are greater, if keys ascend, and so are parts of a list;
-- the proofs of all searches and edits of pieces use it, and those of open directories.
use Rattle.std.proofs.Common.{◌≡◌, ◌≢◌, ◌∙◌, ℕ, true, false, not, List, [], ◌∷◌, ◌++◌, Less, Equal, Greater, refl, sym, ap, subst}
use mathlib.Core.Bool.{true≢false}
use Rattle.std.specs.Cmp.Lexicographic.{slice_cmp}
use Rattle.std.specs.List.{AllByRecursion, flat_map}
use Rattle.std.specs.Ordering.{is_gt, is_lt, nat_cmp, ordering_reverse}
use Rattle.std.proofs.lemmas.Cmp.{nat_list_cmp_total}
use Rattle.gixobj_tree_entries.proofs.TiedBytes.{eq_of_slice_cmp_equal}
use Rattle.gixobj_tree_entries.specs.KeyOrder.{EachLater}
use Rattle.gixobj_editor_entries.specs.Pieces.{AreNonEmpty, IsAscending, begins_at_most, is_after, is_before}
use Rattle.gixobj_editor_entries.proofs.BinarySearch.{less_of_compare}
use Rattle.gixobj_editor_entries.proofs.PrefixLengths.{IsPrefixClosed}
use Rattle.gixobj_editor_entries.proofs.Sublists.{all_weaker}

module _ {X : Type 0} (P : X → Type 0) where
  pub all_of_append_left : (xs ys : List X) → AllByRecursion P (xs ++ ys) → AllByRecursion P xs
  all_of_append_left [] ys h = tt
  all_of_append_left (x ∷ xs) ys h = (h.0, all_of_append_left xs ys h.1)

  pub all_of_append_right : (xs ys : List X) → AllByRecursion P (xs ++ ys) → AllByRecursion P ys
  all_of_append_right [] ys h = h
  all_of_append_right (x ∷ xs) ys h = all_of_append_right xs ys h.1

module _ {X : Type 0} (R : X → X → Type 0) where
  pub each_later_of_append_left : (xs ys : List X) → EachLater R (xs ++ ys) → EachLater R xs
  each_later_of_append_left [] ys h = tt
  each_later_of_append_left (x ∷ xs) ys h = (all_of_append_left (R x) xs ys h.0, each_later_of_append_left xs ys h.1)

  pub each_later_of_append_right : (xs ys : List X) → EachLater R (xs ++ ys) → EachLater R ys
  each_later_of_append_right [] ys h = h
  each_later_of_append_right (x ∷ xs) ys h = each_later_of_append_right xs ys h.1

  pub each_later_weaker : (S : X → X → Type 0) → ((x y : X) → R x y → S x y) → (xs : List X) → EachLater R xs → EachLater S xs
  each_later_weaker S f [] h = tt
  each_later_weaker S f (x ∷ xs) h = (all_weaker (R x) (S x) (f x) xs h.0, each_later_weaker S f xs h.1)

module _ {X : Type 0} (key : X → List ℕ) where
  pub is_ascending_of_append_left : (xs ys : List X) → IsAscending key (xs ++ ys) → IsAscending key xs
  is_ascending_of_append_left = each_later_of_append_left (λ x y. slice_cmp nat_cmp (key x) (key y) ≡ Less)

  pub is_ascending_of_append_right : (xs ys : List X) → IsAscending key (xs ++ ys) → IsAscending key ys
  is_ascending_of_append_right = each_later_of_append_right (λ x y. slice_cmp nat_cmp (key x) (key y) ≡ Less)

module _ {X : Type 0} (key : X → List ℕ) (k : List ℕ) where
  -- an item before one whose key is at most the searched one is less than it
  pub less_of_less_of_not_after : (x y : X) → slice_cmp nat_cmp (key x) (key y) ≡ Less → not (is_after key k y) ≡ true → slice_cmp nat_cmp (key x) k ≡ Less
  less_of_less_of_not_after x y less =
      elim (slice_cmp nat_cmp (key y) k) as (λ o. slice_cmp nat_cmp (key y) k ≡ o → not (is_gt o) ≡ true → slice_cmp nat_cmp (key x) k ≡ Less) [
        | Less ↦ λ e h. nat_list_cmp_total.trans (key x) (key y) k less e
        | Equal ↦ λ e h. subst (λ (it : List ℕ). slice_cmp nat_cmp (key x) it ≡ Less) (eq_of_slice_cmp_equal (key y) k e) less
        | Greater ↦ λ e h. absurd (true≢false (sym h))
      ] refl

  -- an item after one whose key is at least the searched one is greater than it
  pub greater_of_less_of_not_before : (x y : X) → slice_cmp nat_cmp (key x) (key y) ≡ Less → is_before key k x ≡ false → slice_cmp nat_cmp (key y) k ≡ Greater
  greater_of_less_of_not_before x y less =
      elim (slice_cmp nat_cmp (key x) k) as (λ o. slice_cmp nat_cmp (key x) k ≡ o → is_lt o ≡ false → slice_cmp nat_cmp (key y) k ≡ Greater) [
        | Less ↦ λ e h. absurd (true≢false h)
        | Equal ↦ λ e h. subst (λ (it : List ℕ). slice_cmp nat_cmp (key y) it ≡ Greater) (eq_of_slice_cmp_equal (key x) k e)
            (nat_list_cmp_total.antisymm (key y) (key x) ∙ ap ordering_reverse less)
        | Greater ↦ λ e h.
            let above : slice_cmp nat_cmp k (key x) ≡ Less = nat_list_cmp_total.antisymm k (key x) ∙ ap ordering_reverse e in
            nat_list_cmp_total.antisymm (key y) k ∙ ap ordering_reverse (nat_list_cmp_total.trans k (key x) (key y) above less)
      ] refl

  not_after_of_less : (x : X) → slice_cmp nat_cmp (key x) k ≡ Less → not (is_after key k x) ≡ true
  not_after_of_less x e = ap (λ o. not (is_gt o)) e

  not_after_of_before : (y : X) → is_before key k y ≡ true → not (is_after key k y) ≡ true
  not_after_of_before y h = not_after_of_less y (less_of_compare _ h)

  module _ {Y : Type 0} (items : Y → List X) where
    head_not_after : (x : X) (ys : List X) → AllByRecursion (λ y. slice_cmp nat_cmp (key x) (key y) ≡ Less) ys → ys ≢ [] → begins_at_most key k ys ≡ true
        → not (is_after key k x) ≡ true
    head_not_after x [] all filled h = absurd (filled refl)
    head_not_after x (y ∷ ys) all filled h = not_after_of_less x (less_of_less_of_not_after x y all.0 h)

    head_not_after_of_pieces : (x : X) (ps : List Y) → AllByRecursion (λ y. slice_cmp nat_cmp (key x) (key y) ≡ Less) (flat_map items ps)
        → AreNonEmpty items ps
        → AllByRecursion (λ p. begins_at_most key k (items p) ≡ true → not (is_after key k x) ≡ true) ps
    head_not_after_of_pieces x [] all filled = tt
    head_not_after_of_pieces x (p ∷ ps) all filled = (
      head_not_after x (items p) (all_of_append_left _ (items p) (flat_map items ps) all) filled.0,
      head_not_after_of_pieces x ps (all_of_append_right _ (items p) (flat_map items ps) all) filled.1,
    )

    empty_begins_at_most : (ps : List Y) → AllByRecursion (λ p. begins_at_most key k (items p) ≡ true → true ≡ true) ps
    empty_begins_at_most [] = tt
    empty_begins_at_most (p ∷ ps) = (λ h. refl, empty_begins_at_most ps)

    begins_at_most_of_pieces : (xs : List X) (ps : List Y) → IsAscending key (xs ++ flat_map items ps) → AreNonEmpty items ps
        → AllByRecursion (λ p. begins_at_most key k (items p) ≡ true → begins_at_most key k xs ≡ true) ps
    begins_at_most_of_pieces [] ps up filled = empty_begins_at_most ps
    begins_at_most_of_pieces (x ∷ xs) ps up filled = head_not_after_of_pieces x ps (all_of_append_right _ xs (flat_map items ps) up.0) filled

    pub begins_at_most_prefix_closed : (ps : List Y) → IsAscending key (flat_map items ps) → AreNonEmpty items ps
        → IsPrefixClosed (λ p. begins_at_most key k (items p)) ps
    begins_at_most_prefix_closed [] up filled = tt
    begins_at_most_prefix_closed (p ∷ ps) up filled = (
      begins_at_most_of_pieces (items p) ps up filled.1,
      begins_at_most_prefix_closed ps (is_ascending_of_append_right key (items p) (flat_map items ps) up) filled.1,
    )

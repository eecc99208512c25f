-- The pairs of two complete lists of entries: those so far, the next one, and those that remain; the error of a comparison
-- uses them.
use Rattle.std.proofs.Common.{◌≡◌, ◌∙◌, inl, inr, Bool, List, [], ◌∷◌, ◌++◌, ap, refl, subst, sym, Option, Some, None}
use Rattle.std.specs.Cmp.Lexicographic.{bytes_decides, nat_list_cmp_total, slice_cmp, texts_ties}
use Rattle.std.specs.Ordering.{is_eq, nat_cmp, ordering_reverse}
use Rattle.std.specs.declared.cmp.Ordering.{Ordering}
use Rattle.std.specs.declared.cmp.Ordering.TheVariants.{Equal, Greater, Less}
use Rattle.gix_object.specs.Entries.{EntryView}
use Rattle.gix_object.specs.Files.{ContainsEntry}
use Rattle.gix_object.specs.KeyOrder.{ComesBefore, entry_key}
use Rattle.gix_object.specs.Mode.{is_tree_mode}
use Rattle.gix_object.specs.WellFormed.{EachLater}
use Rattle.gixobj_listings.proofs.EntryPairs.{IsAmongPairs, alike_have_equal_keys, equal_keys_are_one_pair, has_entry_if_some, pair_of_left_is_unique}
use Rattle.gixobj_listings.proofs.EntryPairs.{pair_of_right_is_unique}
use Rattle.gixobj_listings.specs.Changes.{EntryPairView, Merges, after_alone, before_alone, both, ends}

abbrev pub HaveMerge : List EntryView → List EntryView → Type 0
HaveMerge left right = (pairs : List EntryPairView) × Merges left right pairs

merge_by_order : (x y : EntryView) (xs ys : List EntryView) → HaveMerge xs (y ∷ ys) → HaveMerge xs ys → HaveMerge (x ∷ xs) ys → (order : Ordering)
    → slice_cmp nat_cmp (entry_key x) (entry_key y) ≡ order
    → HaveMerge (x ∷ xs) (y ∷ ys)
merge_by_order x y xs ys left both_rest right Less is = ((Some x, None) ∷ left.0, before_alone x xs (y ∷ ys) left.0 is left.1)
merge_by_order x y xs ys left both_rest right Equal is =
    let key : entry_key x ≡ entry_key y = (bytes_decides (entry_key x) (entry_key y)).0 (texts_ties (entry_key x) (entry_key y) ∙ ap is_eq is) in
    ((Some x, Some y) ∷ both_rest.0, both x y xs ys both_rest.0 key both_rest.1)
merge_by_order x y xs ys left both_rest right Greater is =
    let less : slice_cmp nat_cmp (entry_key y) (entry_key x) ≡ Less = nat_list_cmp_total.antisymm (entry_key y) (entry_key x) ∙ ap ordering_reverse is in
    ((None, Some y) ∷ right.0, after_alone y (x ∷ xs) ys right.0 less right.1)

merge_of_right : (right : List EntryView) → HaveMerge [] right
merge_of_right [] = ([], ends)
merge_of_right (y ∷ ys) = let rest = merge_of_right ys in ((None, Some y) ∷ rest.0, after_alone y [] ys rest.0 tt rest.1)

merge_with_first : (x : EntryView) (xs : List EntryView) → ((right : List EntryView) → HaveMerge xs right) → (right : List EntryView)
    → HaveMerge (x ∷ xs) right
merge_with_first x xs below [] = let rest = below [] in ((Some x, None) ∷ rest.0, before_alone x xs [] rest.0 tt rest.1)
merge_with_first x xs below (y ∷ ys) =
    merge_by_order x y xs ys (below (y ∷ ys)) (below ys) (merge_with_first x xs below ys) (slice_cmp nat_cmp (entry_key x) (entry_key y)) refl

-- any two lists of entries have pairs
pub have_merge : (left right : List EntryView) → HaveMerge left right
have_merge [] right = merge_of_right right
have_merge (x ∷ xs) right = merge_with_first x xs (have_merge xs) right

-- a pair between others is one of them
pub among_between : (pairs : List EntryPairView) (pair : EntryPairView) (more : List EntryPairView) → IsAmongPairs ((pairs ++ pair ∷ []) ++ more) pair
among_between [] pair more = inl refl
among_between (first ∷ pairs) pair more = inr (among_between pairs pair more)

-- entries of one name in both lists, both of tree mode, are the sides of one pair
module _ (lefts rights : List EntryView) (pairs : List EntryPairView) (merged : Merges lefts rights pairs) (left_order : EachLater ComesBefore lefts)
    (right_order : EachLater ComesBefore rights) (x y : Option EntryView) (among : IsAmongPairs pairs (x, y)) (e b : EntryView) where
  pub right_side_of_directory : x ≡ Some e → ContainsEntry lefts e → ContainsEntry rights b → e.name ≡ b.name → is_tree_mode e.mode ≡ is_tree_mode b.mode
      → y ≡ Some b
  right_side_of_directory is has other name mode =
      pair_of_left_is_unique lefts rights pairs merged left_order e y (Some b) (subst (λ (side : Option EntryView). IsAmongPairs pairs (side, y)) is among)
      (equal_keys_are_one_pair lefts rights pairs merged left_order right_order e b has other (alike_have_equal_keys e b name mode))

  pub left_side_of_directory : y ≡ Some b → ContainsEntry lefts e → ContainsEntry rights b → e.name ≡ b.name → is_tree_mode e.mode ≡ is_tree_mode b.mode
      → x ≡ Some e
  left_side_of_directory is has other name mode =
      pair_of_right_is_unique lefts rights pairs merged right_order b x (Some e) (subst (λ (side : Option EntryView). IsAmongPairs pairs (x, side)) is among)
      (equal_keys_are_one_pair lefts rights pairs merged left_order right_order e b has other (alike_have_equal_keys e b name mode))

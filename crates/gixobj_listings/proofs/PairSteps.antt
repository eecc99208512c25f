-- A step of a comparison consumes its first pair of entries, and its changes have paths that begin there; `next_pair`
-- and `opened_changes` use it.
use Rattle.std.proofs.Common.{◌≡◌, ◌∙◌, inl, inr, true, List, [], ◌∷◌, ◌++◌, ap, refl, subst, sym, Some, None}
use Rattle.std.specs.Cmp.Lexicographic.{bytes_decides, nat_list_cmp_total, slice_cmp, texts_ties}
use Rattle.std.specs.List.{AllByRecursion}
use Rattle.std.specs.Ordering.{is_eq, nat_cmp, ordering_reverse}
use Rattle.std.specs.declared.cmp.Ordering.TheVariants.{Equal, Greater, Less}
use Rattle.bstr.specs.Owned.{bstring_bytes}
use Rattle.gix_object.specs.Entries.{EntryView}
use Rattle.gix_object.specs.Files.{ContainsEntry}
use Rattle.gix_object.specs.KeyOrder.{entry_key}
use Rattle.gixobj_listings.proofs.ChangesOfPairs.{StartsInPair}
use Rattle.gixobj_listings.proofs.EntryPairs.{equal_keys_are_alike, has_entry_if_some, merges_of_first_pair}
use Rattle.gixobj_listings.proofs.FileListings.{all_by_recursion_weaker}
use Rattle.gixobj_listings.specs.Changes.{ChangeView, EntryPairView, HasName, HaveNames, IsAheadOf, Merges, ends}
use Rattle.gixobj_listings.specs.Differences.{IsFirstPair, IsNextPair, IsPairOf, pair_view}
use Rattle.gixobj_listings.specs.FileLists.{has_names}
use Rattle.gixobj_listings.specs.declared.differences.pairs.EntryPair.{EntryPair}

-- the sides of the first pair are entries of the trees
pub sides_of_first_pair : (left right before after : List EntryView) (pair : EntryPair) → IsFirstPair left right pair
    → ((e : EntryView) → ContainsEntry left e → ContainsEntry before e) → ((e : EntryView) → ContainsEntry right e → ContainsEntry after e)
    → has_entry_if_some before (pair_view pair).0 × has_entry_if_some after (pair_view pair).1
sides_of_first_pair left right before after pair (inl (e, is, l, r, ahead)) lefts rights =
    subst (λ (p : EntryPairView). has_entry_if_some before p.0 × has_entry_if_some after p.1) (sym is)
    (lefts e (subst (λ (es : List EntryView). ContainsEntry es e) (sym l) (inl refl)), tt)
sides_of_first_pair left right before after pair (inr (inl (e, is, l, r, ahead))) lefts rights =
    subst (λ (p : EntryPairView). has_entry_if_some before p.0 × has_entry_if_some after p.1) (sym is)
    (tt, rights e (subst (λ (es : List EntryView). ContainsEntry es e) (sym r) (inl refl)))
sides_of_first_pair left right before after pair (inr (inr (e, other, is, l, r, key))) lefts rights =
    subst (λ (p : EntryPairView). has_entry_if_some before p.0 × has_entry_if_some after p.1) (sym is) (
      lefts e (subst (λ (es : List EntryView). ContainsEntry es e) (sym l) (inl refl)),
      rights other (subst (λ (es : List EntryView). ContainsEntry es other) (sym r) (inl refl)),
    )

-- an entry that remains after the first pair is an entry of the lists
pub left_of_rest : (left right : List EntryView) (pair : EntryPair) → IsFirstPair left right pair → (e : EntryView) → ContainsEntry pair.left.now e
    → ContainsEntry left e
left_of_rest left right pair (inl (x, is, l, r, ahead)) e has = subst (λ (es : List EntryView). ContainsEntry es e) (sym l) (inr has)
left_of_rest left right pair (inr (inl (x, is, l, r, ahead))) e has = subst (λ (es : List EntryView). ContainsEntry es e) (sym l) has
left_of_rest left right pair (inr (inr (x, other, is, l, r, key))) e has = subst (λ (es : List EntryView). ContainsEntry es e) (sym l) (inr has)

pub right_of_rest : (left right : List EntryView) (pair : EntryPair) → IsFirstPair left right pair → (e : EntryView) → ContainsEntry pair.right.now e
    → ContainsEntry right e
right_of_rest left right pair (inl (x, is, l, r, ahead)) e has = subst (λ (es : List EntryView). ContainsEntry es e) (sym r) has
right_of_rest left right pair (inr (inl (x, is, l, r, ahead))) e has = subst (λ (es : List EntryView). ContainsEntry es e) (sym r) (inr has)
right_of_rest left right pair (inr (inr (x, other, is, l, r, key))) e has = subst (λ (es : List EntryView). ContainsEntry es e) (sym r) (inr has)

named_of_start : (pairs : List EntryPairView) (change : ChangeView) → StartsInPair pairs change → has_names change.path ≡ true
named_of_start [] change starts = absurd starts
named_of_start (pair ∷ pairs) change (inl (name, rest, called, is, kind)) = ap has_names is
named_of_start (pair ∷ pairs) change (inr starts) = named_of_start pairs change starts

-- the path of each change has names
pub named_of_starts : (pairs : List EntryPairView) (changes : List ChangeView) → AllByRecursion (StartsInPair pairs) changes
    → AllByRecursion (λ (change : ChangeView). has_names change.path ≡ true) changes
named_of_starts pairs changes starts =
    all_by_recursion_weaker (StartsInPair pairs) (λ (change : ChangeView). has_names change.path ≡ true) (named_of_start pairs) changes starts

append_nil : (pairs : List EntryPairView) → pairs ++ [] ≡ pairs
append_nil [] = refl
append_nil (pair ∷ pairs) = ap (λ (rest : List EntryPairView). pair ∷ rest) (append_nil pairs)

snoc_append : (pairs : List EntryPairView) (pair : EntryPairView) (more : List EntryPairView) → (pairs ++ pair ∷ []) ++ more ≡ pairs ++ pair ∷ more
snoc_append [] pair more = refl
snoc_append (first ∷ pairs) pair more = ap (λ (rest : List EntryPairView). first ∷ rest) (snoc_append pairs pair more)

-- one more pair
pub merges_snoc : (before after left right : List EntryView) (pair : EntryPair) → IsFirstPair left right pair → (pairs : List EntryPairView)
    → ((more : List EntryPairView) → Merges left right more → Merges before after (pairs ++ more))
    → (more : List EntryPairView) → Merges pair.left.now pair.right.now more
    → Merges before after ((pairs ++ pair_view pair ∷ []) ++ more)
merges_snoc before after left right pair first pairs so_far more rest =
    subst (Merges before after) (sym (snoc_append pairs (pair_view pair) more))
    (so_far (pair_view pair ∷ more) (merges_of_first_pair left right pair first more rest))

-- no entries remain
pub merges_of_nothing : (before after left right : List EntryView) → left ≡ [] → right ≡ [] → (pairs : List EntryPairView)
    → ((more : List EntryPairView) → Merges left right more → Merges before after (pairs ++ more))
    → Merges before after pairs
merges_of_nothing before after left right l r pairs so_far = subst (Merges before after) (append_nil pairs) (so_far [] (rw (l, r) ends))

-- ---- the first pair, by the order of the first entries

-- the first entry of the second list alone
pub next_pair_of_greater : (left right : List EntryView) (before after : EntryView) (left_more right_more : List EntryView) (pair : EntryPair)
    → left ≡ before ∷ left_more → right ≡ after ∷ right_more → slice_cmp nat_cmp (entry_key before) (entry_key after) ≡ Greater
    → IsPairOf None (Some after) left right_more pair
    → IsNextPair left right pair
next_pair_of_greater left right before after left_more right_more pair left_is right_is order of =
    let less : slice_cmp nat_cmp (entry_key after) (entry_key before) ≡ Less =
    nat_list_cmp_total.antisymm (entry_key after) (entry_key before) ∙ ap ordering_reverse order in
    record {
      name = subst (HasName (bstring_bytes pair.name.now)) (sym of.entries) of.name;
      first = inr (inl (
        after,
        of.entries,
        sym of.remaining_left,
        right_is ∙ ap (λ (es : List EntryView). after ∷ es) (sym of.remaining_right),
        subst (IsAheadOf after) (sym left_is) less,
      ));
    }

-- the first entries of both lists, which have one key
pub next_pair_of_equal : (left right : List EntryView) (before after : EntryView) (left_more right_more : List EntryView) (pair : EntryPair)
    → left ≡ before ∷ left_more → right ≡ after ∷ right_more → slice_cmp nat_cmp (entry_key before) (entry_key after) ≡ Equal
    → HaveNames left → HaveNames right → bstring_bytes pair.name.now ≡ before.name → pair_view pair ≡ (Some before, Some after)
    → pair.left.now ≡ left_more → pair.right.now ≡ right_more
    → IsNextPair left right pair
next_pair_of_equal left right before after left_more right_more pair left_is right_is order left_names right_names named entries left_rest right_rest =
    let key : entry_key before ≡ entry_key after =
    (bytes_decides (entry_key before) (entry_key after)).0 (texts_ties (entry_key before) (entry_key after) ∙ ap is_eq order) in
    let lefts : HaveNames (before ∷ left_more) = subst HaveNames left_is left_names in
    let rights : HaveNames (after ∷ right_more) = subst HaveNames right_is right_names in
    let alike = equal_keys_are_alike before after lefts.0 rights.0 key in
    record {
      name = subst (HasName (bstring_bytes pair.name.now)) (sym entries) (sym named, sym alike.0 ∙ sym named, alike.1);
      first = inr (inr (
        before,
        after,
        entries,
        left_is ∙ ap (λ (es : List EntryView). before ∷ es) (sym left_rest),
        right_is ∙ ap (λ (es : List EntryView). after ∷ es) (sym right_rest),
        key,
      ));
    }

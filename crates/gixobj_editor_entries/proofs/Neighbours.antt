-- If neighbours are less and greater than the searched key, then no item has it; the proofs of `is_past_end`,
-- `remove_unless` and `insert_at` use it, and `WithEntry` of entries.
use Rattle.std.proofs.Common.{◌≡◌, ◌∙◌, ◌+◌, ◌<◌, ◌≤◌, inl, inr, ℕ, zero, suc, Bool, true, false, cond, List, [], ◌∷◌, ◌++◌, HoldsAt, Less, Greater, None}
use Rattle.std.proofs.Common.{get_or, length, length-append, refl, sym, ap, subst, arith}
use mathlib.Core.List.{append_assoc}
use Rattle.std.specs.List.{filter, find, flat_map}
use Rattle.std.specs.Ordering.{is_eq}
use Rattle.std.proofs.lemmas.Bool.Decides.{leb_tells}
use Rattle.std.proofs.lemmas.List.{get_or_append_left, get_or-append-add}
use Rattle.gixobj_editor_entries.specs.Pieces.{HasGap, IsAscending, IsGreaterFrom, IsLessBefore, has_key, is_after, is_before, joined, key_cmp, with_item}
use Rattle.gixobj_editor_entries.specs.Pieces.{without_key}
use Rattle.gixobj_editor_entries.proofs.BinarySearch.{find_none, greater_from, less_to, position_none}
use Rattle.gixobj_editor_entries.proofs.FlatIndices.{fails_of_none}

module _ {X : Type 0} (key : X → List ℕ) (k : List ℕ) where
  find_none_between : (xs : List X) (n before : ℕ) → IsAscending key xs → IsLessBefore key k xs n before
      → (n < length xs → HoldsAt (λ x. key_cmp key k x ≡ Greater) xs n) → find (has_key key k) xs ≡ None
  find_none_between xs zero before up less greater =
      find_none (has_key key k) xs (position_none (has_key key k) xs
      (λ j d low. ap is_eq (greater_from key xs up k zero (greater (omega (arith, low))) j d (omega arith) low)))
  find_none_between xs (suc i) before up less greater =
      find_none (has_key key k) xs (position_none (has_key key k) xs (λ j d low. elim (leb_tells (suc i) j) [
        | inl after ↦ ap is_eq (greater_from key xs up k (suc i) (greater (omega (arith, after.1, low))) j d after.1 low)
        | inr ahead ↦ ap is_eq (less_to key xs up k i less.0 less.1 j d (omega (arith, ahead.1)))
      ]))

  greater_at_append : (p upper : List X) (i after : ℕ) → IsGreaterFrom key k p i after → (after ≡ 0 → upper ≡ []) → i ≤ length p
      → i < length (p ++ upper) → HoldsAt (λ x. key_cmp key k x ≡ Greater) (p ++ upper) i
  greater_at_append p upper i after greater empty fits low d = elim (leb_tells (length p) i) [
    | inl past ↦ absurd (omega (arith, past.1, low, length-append p upper, ap length (empty (greater.1 past.1)), fits))
    | inr within ↦ subst (λ (x : X). key_cmp key k x ≡ Greater) (sym (get_or_append_left p upper d i within.1)) (greater.0 within.1 d)
  ]

  -- the same about an index of a part of the list
  find_none_in_part : (lower p upper : List X) (i before after : ℕ) → IsAscending key (lower ++ (p ++ upper)) → IsLessBefore key k p i before
      → IsGreaterFrom key k p i after → (before ≡ 0 → lower ≡ []) → (after ≡ 0 → upper ≡ [])
      → find (has_key key k) (lower ++ (p ++ upper)) ≡ None
  find_none_in_part lower p upper zero before after up less greater first last =
      subst (λ (l : List X). find (has_key key k) (l ++ (p ++ upper)) ≡ None) (sym (first less))
      (find_none_between (p ++ upper) zero zero (subst (λ (l : List X). IsAscending key (l ++ (p ++ upper))) (first less) up) refl
      (greater_at_append p upper zero after greater last (omega arith)))
  find_none_in_part lower p upper (suc i) before after up less greater first last =
      let xs : List X = lower ++ (p ++ upper) in
      let shift : suc (length lower + i) ≡ length lower + suc i = omega arith in
      find_none_between xs (suc (length lower + i)) zero up (
        omega (arith, less.0, length-append lower (p ++ upper), length-append p upper),
        λ d. subst (λ (x : X). key_cmp key k x ≡ Less)
            (sym (get_or-append-add lower (p ++ upper) i d ∙ get_or_append_left p upper d i less.0)) (less.1 d),
      )
      (λ low d. subst (λ (x : X). key_cmp key k x ≡ Greater)
      (sym (ap (λ (n : ℕ). get_or xs n d) shift ∙ get_or-append-add lower (p ++ upper) (suc i) d))
      (greater_at_append p upper (suc i) after greater last (omega (arith, less.0)) (omega (arith, low, length-append lower (p ++ upper))) d))

  -- no item is left out if none has the key
  pub without_key_of_find_none : (xs : List X) → find (has_key key k) xs ≡ None → xs ≡ without_key key k xs
  without_key_of_find_none [] none = refl
  without_key_of_find_none (x ∷ xs) none =
      let rest = fails_of_none (has_key key k x) x (find (has_key key k) xs) none in
      rw rest.0 (ap (λ l. x ∷ l) (without_key_of_find_none xs rest.1))

-- an insertion of an item of another key
module _ {X : Type 0} (p q : X → Bool) where
  find_none_filter : (xs : List X) → find p xs ≡ None → find p (filter q xs) ≡ None
  find_none_filter [] none = refl
  find_none_filter (x ∷ xs) none =
      let rest = fails_of_none (p x) x (find p xs) none in
      elim (q x) as (λ b. find p (cond b (x ∷ filter q xs) (filter q xs)) ≡ None) [
        | true ↦ rw rest.0 (find_none_filter xs rest.1)
        | false ↦ find_none_filter xs rest.1
      ]

find_none_append : {X : Type 0} (p : X → Bool) (xs ys : List X) → find p xs ≡ None → find p ys ≡ None → find p (xs ++ ys) ≡ None
find_none_append p [] ys none others = others
find_none_append p (x ∷ xs) ys none others =
    let rest = fails_of_none (p x) x (find p xs) none in
    rw rest.0 (find_none_append p xs ys rest.1 others)

pub find_none_with_item : {X : Type 0} (key : X → List ℕ) (x : X) (k : List ℕ) (xs : List X) → has_key key k x ≡ false
    → find (has_key key k) xs ≡ None → find (has_key key k) (with_item key x xs) ≡ None
find_none_with_item key x k xs differs none =
    find_none_append (has_key key k) (filter (is_before key (key x)) xs) (x ∷ filter (is_after key (key x)) xs)
    (find_none_filter (has_key key k) (is_before key (key x)) xs none)
    (rw differs (find_none_filter (has_key key k) (is_after key (key x)) xs none))

module _ {X Y : Type 0} (items : Y → List X) (key : X → List ℕ) (k : List ℕ) where
  flat_map_nil : (ps : List Y) → length ps ≡ 0 → flat_map items ps ≡ []
  flat_map_nil [] none = refl
  flat_map_nil (p ∷ ps) none = absurd (omega (arith, none))

  pub find_none_about_first : (first : List X) (more : List Y) (before after : ℕ) → IsAscending key (first ++ flat_map items more)
      → HasGap key k first before after → after ≡ length more
      → find (has_key key k) (joined items first more) ≡ None
  find_none_about_first first more before after up gap count =
      find_none_in_part key k [] first (flat_map items more) gap.0 before after up gap.1 gap.2 (λ e. refl)
      (λ e. flat_map_nil more (omega (arith, e, count)))

  pub find_none_about_more : (first : List X) (more : List Y) (j before after : ℕ) (q : Y) → IsAscending key (first ++ flat_map items more)
      → j < length more → HasGap key k (items (get_or more j q)) before after → 0 < before → after + suc j ≡ length more
      → find (has_key key k) (joined items first more) ≡ None
  find_none_about_more first [] j before after q up low gap later count = absurd (omega (arith, low))
  find_none_about_more first (p ∷ ps) zero before after q up low gap later count =
      find_none_in_part key k first (items p) (flat_map items ps) gap.0 before after up gap.1 gap.2 (λ e. absurd (omega (arith, e, later)))
      (λ e. flat_map_nil ps (omega (arith, e, count)))
  find_none_about_more first (p ∷ ps) (suc j) before after q up low gap later count =
      let same = append_assoc first (items p) (flat_map items ps) in
      subst (λ (l : List X). find (has_key key k) l ≡ None) same
      (find_none_about_more (first ++ items p) ps j before after q (subst (IsAscending key) (sym same) up) (omega (arith, low)) gap later
      (omega (arith, count)))

-- The item at a position in pieces is the item of the list at its flat index, also once it is changed, and the position
-- of a key is that of its item; the proofs of `position_of`, `position_at`, `Neighbours` and open directories use it.
use Rattle.std.proofs.Common.{◌≡◌, ◌∙◌, ◌+◌, ◌-◌, ◌<◌, ℕ, zero, suc, Bool, false, cond, List, [], ◌∷◌, ◌++◌, HoldsAt, Less, Equal, Greater, Option, true, Some}
use Rattle.std.proofs.Common.{None, get_or, set, length, length-append, refl, sym, ap, subst, take, arith}
use mathlib.Core.Bool.{true≢false}
use Rattle.std.specs.Prelude.{IfNone, IfSome}
use Rattle.std.specs.Cmp.Lexicographic.{slice_cmp}
use Rattle.std.specs.List.{find, flat_map, position}
use Rattle.std.specs.Ordering.{is_eq, nat_cmp}
use Rattle.std.proofs.lemmas.List.{get_or_append_left, get_or-append-add, set-append_left, set-append_right}
use Rattle.gixobj_tree_entries.proofs.TiedBytes.{eq_of_slice_cmp_equal, slice_cmp_equal_of_eq}
use Rattle.gixobj_editor_entries.specs.Pieces.{IsAscending, flat_index, has_key, joined}
use Rattle.gixobj_editor_entries.proofs.BinarySearch.{element_at, later_at, position_at, position_none}

module _ {X : Type 0} where
  pub fails_of_none : (b : Bool) (x : X) (r : Option X) → cond b (Some x) r ≡ None → (b ≡ false) × (r ≡ None)
  fails_of_none true x r e = absurd (cc e)
  fails_of_none false x r e = (refl, e)

  none_of_find : (p : X → Bool) (xs : List X) → find p xs ≡ None → (k : ℕ) (d : X) → k < length xs → p (get_or xs k d) ≡ false
  none_of_find p [] none k d low = absurd (omega (arith, low))
  none_of_find p (x ∷ xs) none zero d low = (fails_of_none (p x) x (find p xs) none).0
  none_of_find p (x ∷ xs) none (suc k) d low = none_of_find p xs (fails_of_none (p x) x (find p xs) none).1 k d (omega (arith, low))

  -- no item has a key if a search finds none
  pub position_none_of_find : (p : X → Bool) (xs : List X) → find p xs ≡ None → position p xs ≡ None
  position_none_of_find p xs none = position_none p xs (none_of_find p xs none)

  -- the item at an index is the only one of its key
  pub position_of_key : (key : X → List ℕ) (k : List ℕ) (xs : List X) (i : ℕ) (d : X) → IsAscending key xs → i < length xs
      → key (get_or xs i d) ≡ k → position (has_key key k) xs ≡ Some i
  position_of_key key k xs i d up low here =
      position_at (has_key key k) xs i d low (ap is_eq (slice_cmp_equal_of_eq (key (get_or xs i d)) k here))
      (λ j before. ap is_eq (subst (λ (it : List ℕ). slice_cmp nat_cmp (key (get_or xs j d)) it ≡ Less) here
      (later_at (λ x y. slice_cmp nat_cmp (key x) (key y) ≡ Less) xs up j i d before low)))

module _ {X Y : Type 0} (items : Y → List X) where
  -- the item at a position
  pub get_or_flat_map : (ps : List Y) (j i : ℕ) (d : X) (q : Y) → j < length ps → i < length (items (get_or ps j q))
      → get_or (flat_map items ps) (length (flat_map items (take j ps)) + i) d ≡ get_or (items (get_or ps j q)) i d
  get_or_flat_map [] j i d q low within = absurd (omega (arith, low))
  get_or_flat_map (p ∷ ps) zero i d q low within =
      let start : length (flat_map items (take zero (p ∷ ps))) + i ≡ i = omega arith in
      ap (λ (n : ℕ). get_or (items p ++ flat_map items ps) n d) start ∙ get_or_append_left (items p) (flat_map items ps) d i within
  get_or_flat_map (p ∷ ps) (suc j) i d q low within =
      let before : List X = flat_map items (take j ps) in
      let shift : length (items p ++ before) + i ≡ length (items p) + (length before + i) = omega (arith, length-append (items p) before) in
      ap (λ (n : ℕ). get_or (items p ++ flat_map items ps) n d) shift
      ∙ get_or-append-add (items p) (flat_map items ps) (length before + i) d
      ∙ get_or_flat_map ps j i d q (omega (arith, low)) within

  pub flat_index_lt : (ps : List Y) (j i : ℕ) (q : Y) → j < length ps → i < length (items (get_or ps j q))
      → length (flat_map items (take j ps)) + i < length (flat_map items ps)
  flat_index_lt [] j i q low within = absurd (omega (arith, low))
  flat_index_lt (p ∷ ps) zero i q low within = omega (arith, length-append (items p) (flat_map items ps), within)
  flat_index_lt (p ∷ ps) (suc j) i q low within =
      let rest = flat_index_lt ps j i q (omega (arith, low)) within in
      omega (arith, length-append (items p) (flat_map items ps), length-append (items p) (flat_map items (take j ps)), rest)

  -- an item of the first piece is changed
  pub joined_set_first : (first : List X) (more : List Y) (i : ℕ) (x : X) → i < length first
      → joined items (set first i x) more ≡ set (joined items first more) i x
  joined_set_first first more i x low = sym (set-append_left first (flat_map items more) i x low)

  -- an item after a prefix is changed
  set_after : (xs ys : List X) (i : ℕ) (x : X) → xs ++ set ys i x ≡ set (xs ++ ys) (length xs + i) x
  set_after xs ys i x =
      let shift : i ≡ length xs + i - length xs = omega arith in
      ap (λ (n : ℕ). xs ++ set ys n x) shift ∙ sym (set-append_right xs ys (length xs) (length xs + i) x refl (omega arith))

  pub flat_map_set : (ps : List Y) (j i : ℕ) (q : Y) (x : X) → j < length ps → i < length (items (get_or ps j q))
      → items q ≡ set (items (get_or ps j q)) i x
      → flat_map items (set ps j q) ≡ set (flat_map items ps) (length (flat_map items (take j ps)) + i) x
  flat_map_set [] j i q x low within is = absurd (omega (arith, low))
  flat_map_set (p ∷ ps) zero i q x low within is =
      let start : i ≡ length (flat_map items (take zero (p ∷ ps))) + i = omega arith in
      ap (λ l. l ++ flat_map items ps) is ∙ sym (set-append_left (items p) (flat_map items ps) i x within)
      ∙ ap (λ (n : ℕ). set (items p ++ flat_map items ps) n x) start
  flat_map_set (p ∷ ps) (suc j) i q x low within is =
      let before : List X = flat_map items (take j ps) in
      let shift : length (items p) + (length before + i) ≡ length (items p ++ before) + i = omega (arith, length-append (items p) before) in
      ap (λ l. items p ++ l) (flat_map_set ps j i q x (omega (arith, low)) within is)
      ∙ set_after (items p) (flat_map items ps) (length before + i) x
      ∙ ap (λ (n : ℕ). set (items p ++ flat_map items ps) n x) shift

  -- an item of another piece is changed
  pub joined_set_more : (first : List X) (more : List Y) (j i : ℕ) (q : Y) (x : X) → j < length more → i < length (items (get_or more j q))
      → items q ≡ set (items (get_or more j q)) i x
      → joined items first (set more j q) ≡ set (joined items first more) (flat_index items first more (suc j) i) x
  joined_set_more first more j i q x low within is =
      ap (λ l. first ++ l) (flat_map_set more j i q x low within is)
      ∙ set_after first (flat_map items more) (length (flat_map items (take j more)) + i) x

  module _ (key : X → List ℕ) (k : List ℕ) (first : List X) (more : List Y) (up : IsAscending key (joined items first more)) where
    -- the item of a key in the first piece
    pub position_joined_first : (i : ℕ) (d : X) → i < length first → key (get_or first i d) ≡ k
        → position (has_key key k) (joined items first more) ≡ Some i
    position_joined_first i d low here =
        position_of_key key k (joined items first more) i d up (omega (arith, low, length-append first (flat_map items more)))
        (ap key (get_or_append_left first (flat_map items more) d i low) ∙ here)

    -- the item of a key in another piece
    pub position_joined_more : (j i : ℕ) (d : X) (q : Y) → j < length more → i < length (items (get_or more j q))
        → key (get_or (items (get_or more j q)) i d) ≡ k
        → position (has_key key k) (joined items first more) ≡ Some (flat_index items first more (suc j) i)
    position_joined_more j i d q low within here =
        let inner : ℕ = length (flat_map items (take j more)) + i in
        let bound = flat_index_lt more j i q low within in
        position_of_key key k (joined items first more) (length first + inner) d up
        (omega (arith, bound, length-append first (flat_map items more)))
        (ap key (get_or-append-add first (flat_map items more) inner d ∙ get_or_flat_map more j i d q low within) ∙ here)

    -- the position of a key whose item is at an index of the first piece or of another one, by `HoldsAt`
    pub position_joined_first_of_held : (i : ℕ) → i < length first → HoldsAt (λ x. key x ≡ k) first i
        → position (has_key key k) (joined items first more) ≡ Some i
    position_joined_first_of_held i low held = let d = element_at first i low in position_joined_first i d low (held d)

    pub position_joined_more_of_held : (j i : ℕ) (q : Y) → j < length more → i < length (items (get_or more j q))
        → HoldsAt (λ x. key x ≡ k) (items (get_or more j q)) i
        → position (has_key key k) (joined items first more) ≡ Some (flat_index items first more (suc j) i)
    position_joined_more_of_held j i q low within held =
        let d = element_at (items (get_or more j q)) i within in
        position_joined_more j i d q low within (held d)

-- what is said of a value that may be missing
pub if_some_of_three : {X : Type 0} (r : Option X) (P Q R S : X → Type 0) → IfSome r P → IfSome r Q → IfSome r R → ((x : X) → P x → Q x → R x → S x)
    → IfSome r S
if_some_of_three None P Q R S p q r f = tt
if_some_of_three (Some x) P Q R S p q r f = f x p q r

pub if_none_weaker : {X P Q : Type 0} (r : Option X) → IfNone r P → (P → Q) → IfNone r Q
if_none_weaker None p f = f p
if_none_weaker (Some x) p f = tt

-- a key that compares as equal is the searched one
pub key_of_has_key : {X : Type 0} (key : X → List ℕ) (k : List ℕ) (x : X) → has_key key k x ≡ true → key x ≡ k
key_of_has_key key k x has =
    elim (slice_cmp nat_cmp (key x) k) as (λ o. slice_cmp nat_cmp (key x) k ≡ o → is_eq o ≡ true → key x ≡ k) [
      | Less ↦ λ e h. absurd (true≢false (sym h))
      | Equal ↦ λ e h. eq_of_slice_cmp_equal (key x) k e
      | Greater ↦ λ e h. absurd (true≢false (sym h))
    ] refl has

-- A search or an edit of ascending items makes of a list what it makes of the part about the searched key; the proofs
-- of `find_in`, `insert_in`, `remove_in` and `position_at` use it, and `Joined`.
use Rattle.std.proofs.Common.{◌≡◌, ◌∙◌, ◌+◌, ◌<◌, ℕ, suc, Bool, true, false, not, cond, List, [], ◌∷◌, ◌++◌, HoldsAt, Less, Equal, Greater, Ordering, Option}
use Rattle.std.proofs.Common.{Some, None, get_or, set, length, refl, sym, ap, subst, arith}
use mathlib.Core.Bool.{true≢false}
use mathlib.Core.List.{append-nil, append_assoc}
use Rattle.std.specs.Cmp.Lexicographic.{slice_cmp}
use Rattle.std.specs.List.{AllByRecursion, filter, find, insert, prefix_len, remove}
use Rattle.std.specs.Ordering.{is_eq, is_gt, is_lt, nat_cmp}
use Rattle.std.proofs.lemmas.List.Elements.{filter-append}
use Rattle.gixobj_tree_entries.specs.KeyOrder.{key_of}
use Rattle.gixobj_editor_entries.specs.Pieces.{IsAscending, has_key, is_after, is_before, item_key, with_item, without_key}
use Rattle.gixobj_editor_entries.proofs.Keys.{all_of_append_right, greater_of_less_of_not_before, less_of_less_of_not_after}

module _ {X : Type 0} (key : X → List ℕ) (k : List ℕ) where
  -- each key compares with the searched one in this order
  abbrev pub AllCompare : Ordering → List X → Type 0
  AllCompare o xs = AllByRecursion (λ x. slice_cmp nat_cmp (key x) k ≡ o) xs

  pub all_less_of_next_not_after : (y : X) (xs ys : List X) → IsAscending key (xs ++ y ∷ ys) → not (is_after key k y) ≡ true → AllCompare Less xs
  all_less_of_next_not_after y [] ys up h = tt
  all_less_of_next_not_after y (x ∷ xs) ys up h = (
    less_of_less_of_not_after key k x y (all_of_append_right (λ z. slice_cmp nat_cmp (key x) (key z) ≡ Less) xs (y ∷ ys) up.0).0 h,
    all_less_of_next_not_after y xs ys up.1 h,
  )

  pub all_greater_of_head_not_before : (y : X) (ys : List X) → AllByRecursion (λ z. slice_cmp nat_cmp (key y) (key z) ≡ Less) ys → is_before key k y ≡ false
      → AllCompare Greater ys
  all_greater_of_head_not_before y [] all h = tt
  all_greater_of_head_not_before y (z ∷ ys) all h = (greater_of_less_of_not_before key k y z all.0 h, all_greater_of_head_not_before y ys all.1 h)

  pub filter_before_of_all_greater : (xs : List X) → AllCompare Greater xs → filter (is_before key k) xs ≡ []
  filter_before_of_all_greater [] all = refl
  filter_before_of_all_greater (x ∷ xs) all = rw all.0 (filter_before_of_all_greater xs all.1)

  pub filter_after_of_all_greater : (xs : List X) → AllCompare Greater xs → filter (is_after key k) xs ≡ xs
  filter_after_of_all_greater [] all = refl
  filter_after_of_all_greater (x ∷ xs) all = rw all.0 (ap (λ l. x ∷ l) (filter_after_of_all_greater xs all.1))

  pub find_append_of_all_less : (xs ys : List X) → AllCompare Less xs → find (has_key key k) (xs ++ ys) ≡ find (has_key key k) ys
  find_append_of_all_less [] ys all = refl
  find_append_of_all_less (x ∷ xs) ys all = rw all.0 (find_append_of_all_less xs ys all.1)

  pub find_none_of_all_greater : (xs : List X) → AllCompare Greater xs → find (has_key key k) xs ≡ None
  find_none_of_all_greater [] all = refl
  find_none_of_all_greater (x ∷ xs) all = rw all.0 (find_none_of_all_greater xs all.1)

  pub find_append_of_all_greater : (xs ys : List X) → AllCompare Greater ys → find (has_key key k) (xs ++ ys) ≡ find (has_key key k) xs
  find_append_of_all_greater [] ys all = find_none_of_all_greater ys all
  find_append_of_all_greater (x ∷ xs) ys all = ap (λ (r : Option X). cond (has_key key k x) (Some x) r) (find_append_of_all_greater xs ys all)

  pub without_key_of_all_less : (xs : List X) → AllCompare Less xs → without_key key k xs ≡ xs
  without_key_of_all_less [] all = refl
  without_key_of_all_less (x ∷ xs) all = rw all.0 (ap (λ l. x ∷ l) (without_key_of_all_less xs all.1))

  pub without_key_of_all_greater : (xs : List X) → AllCompare Greater xs → without_key key k xs ≡ xs
  without_key_of_all_greater [] all = refl
  without_key_of_all_greater (x ∷ xs) all = rw all.0 (ap (λ l. x ∷ l) (without_key_of_all_greater xs all.1))

  -- the item after those that come before the key has it, or no item does
  find_at_prefix_len : (xs : List X) (d : X) → IsAscending key xs → prefix_len (is_before key k) xs < length xs
      → has_key key k (get_or xs (prefix_len (is_before key k) xs) d) ≡ true → find (has_key key k) xs ≡ Some (get_or xs (prefix_len (is_before key k) xs) d)
  find_at_prefix_len [] d up = λ low has. absurd (omega (arith, low))
  find_at_prefix_len (x ∷ xs) d up =
      elim (slice_cmp nat_cmp (key x) k) as (λ o. slice_cmp nat_cmp (key x) k ≡ o
      → cond (is_lt o) (1 + prefix_len (is_before key k) xs) 0 < length (x ∷ xs)
      → has_key key k (get_or (x ∷ xs) (cond (is_lt o) (1 + prefix_len (is_before key k) xs) 0) d) ≡ true
      → cond (is_eq o) (Some x) (find (has_key key k) xs) ≡ Some (get_or (x ∷ xs) (cond (is_lt o) (1 + prefix_len (is_before key k) xs) 0) d)) [
        | Less ↦ λ e. subst (λ (m : ℕ). m < length (x ∷ xs) → has_key key k (get_or (x ∷ xs) m d) ≡ true
            → find (has_key key k) xs ≡ Some (get_or (x ∷ xs) m d)) {x = suc (prefix_len (is_before key k) xs)} (omega arith)
            (λ low has. find_at_prefix_len xs d up.1 (omega (arith, low)) has)
        | Equal ↦ λ e low has. refl
        | Greater ↦ λ e low has. absurd (true≢false (sym has ∙ ap is_eq e))
      ] refl

  find_none_at_prefix_len : (xs : List X) → IsAscending key xs
      → ((d : X) → prefix_len (is_before key k) xs < length xs → has_key key k (get_or xs (prefix_len (is_before key k) xs) d) ≡ false)
      → find (has_key key k) xs ≡ None
  find_none_at_prefix_len [] up = λ no. refl
  find_none_at_prefix_len (x ∷ xs) up =
      elim (slice_cmp nat_cmp (key x) k) as (λ o. slice_cmp nat_cmp (key x) k ≡ o
      → ((d : X) → cond (is_lt o) (1 + prefix_len (is_before key k) xs) 0 < length (x ∷ xs)
      → has_key key k (get_or (x ∷ xs) (cond (is_lt o) (1 + prefix_len (is_before key k) xs) 0) d) ≡ false)
      → cond (is_eq o) (Some x) (find (has_key key k) xs) ≡ None) [
        | Less ↦ λ e. subst (λ (m : ℕ). ((d : X) → m < length (x ∷ xs) → has_key key k (get_or (x ∷ xs) m d) ≡ false)
            → find (has_key key k) xs ≡ None) {x = suc (prefix_len (is_before key k) xs)} (omega arith)
            (λ no. find_none_at_prefix_len xs up.1 (λ d low. no d (omega (arith, low))))
        | Equal ↦ λ e no. absurd (true≢false (sym (ap is_eq e) ∙ no x (omega arith)))
        | Greater ↦ λ e no. find_none_of_all_greater xs (all_greater_of_head_not_before x xs up.0 (ap is_lt e))
      ] refl

  remove_at_prefix_len : (xs : List X) (d : X) → IsAscending key xs → prefix_len (is_before key k) xs < length xs
      → has_key key k (get_or xs (prefix_len (is_before key k) xs) d) ≡ true → remove xs (prefix_len (is_before key k) xs) ≡ without_key key k xs
  remove_at_prefix_len [] d up = λ low has. absurd (omega (arith, low))
  remove_at_prefix_len (x ∷ xs) d up =
      elim (slice_cmp nat_cmp (key x) k) as (λ o. slice_cmp nat_cmp (key x) k ≡ o
      → cond (is_lt o) (1 + prefix_len (is_before key k) xs) 0 < length (x ∷ xs)
      → has_key key k (get_or (x ∷ xs) (cond (is_lt o) (1 + prefix_len (is_before key k) xs) 0) d) ≡ true
      → remove (x ∷ xs) (cond (is_lt o) (1 + prefix_len (is_before key k) xs) 0)
      ≡ cond (not (is_eq o)) (x ∷ without_key key k xs) (without_key key k xs)) [
        | Less ↦ λ e. subst (λ (m : ℕ). m < length (x ∷ xs) → has_key key k (get_or (x ∷ xs) m d) ≡ true
            → remove (x ∷ xs) m ≡ x ∷ without_key key k xs) {x = suc (prefix_len (is_before key k) xs)} (omega arith)
            (λ low has. ap (λ l. x ∷ l) (remove_at_prefix_len xs d up.1 (omega (arith, low)) has))
        | Equal ↦ λ e low has. sym (without_key_of_all_greater xs (all_greater_of_head_not_before x xs up.0 (ap is_lt e)))
        | Greater ↦ λ e low has. absurd (true≢false (sym has ∙ ap is_eq e))
      ] refl

  without_key_at_prefix_len : (xs : List X) → IsAscending key xs
      → ((d : X) → prefix_len (is_before key k) xs < length xs → has_key key k (get_or xs (prefix_len (is_before key k) xs) d) ≡ false)
      → xs ≡ without_key key k xs
  without_key_at_prefix_len [] up = λ no. refl
  without_key_at_prefix_len (x ∷ xs) up =
      elim (slice_cmp nat_cmp (key x) k) as (λ o. slice_cmp nat_cmp (key x) k ≡ o
      → ((d : X) → cond (is_lt o) (1 + prefix_len (is_before key k) xs) 0 < length (x ∷ xs)
      → has_key key k (get_or (x ∷ xs) (cond (is_lt o) (1 + prefix_len (is_before key k) xs) 0) d) ≡ false)
      → x ∷ xs ≡ cond (not (is_eq o)) (x ∷ without_key key k xs) (without_key key k xs)) [
        | Less ↦ λ e. subst (λ (m : ℕ). ((d : X) → m < length (x ∷ xs) → has_key key k (get_or (x ∷ xs) m d) ≡ false)
            → x ∷ xs ≡ x ∷ without_key key k xs) {x = suc (prefix_len (is_before key k) xs)} (omega arith)
            (λ no. ap (λ l. x ∷ l) (without_key_at_prefix_len xs up.1 (λ d low. no d (omega (arith, low)))))
        | Equal ↦ λ e no. absurd (true≢false (sym (ap is_eq e) ∙ no x (omega arith)))
        | Greater ↦ λ e no. ap (λ l. x ∷ l) (sym (without_key_of_all_greater xs (all_greater_of_head_not_before x xs up.0 (ap is_lt e))))
      ] refl

  -- what a search in the piece finds, and the piece without it, if `i` is the position of the key
  module _ (xs : List X) (i : ℕ) (up : IsAscending key xs) (at : i ≡ prefix_len (is_before key k) xs) where
    absent_at : (i < length xs → HoldsAt (λ x. has_key key k x ≡ false) xs i) → (d : X) → prefix_len (is_before key k) xs < length xs
        → has_key key k (get_or xs (prefix_len (is_before key k) xs) d) ≡ false
    absent_at none d = subst (λ (j : ℕ). j < length xs → has_key key k (get_or xs j d) ≡ false) at (λ low. none low d)

    pub find_of_found : (d : X) → i < length xs → HoldsAt (λ x. has_key key k x ≡ true) xs i → find (has_key key k) xs ≡ Some (get_or xs i d)
    find_of_found d low has =
        subst (λ (j : ℕ). j < length xs → has_key key k (get_or xs j d) ≡ true → find (has_key key k) xs ≡ Some (get_or xs j d)) (sym at)
        (find_at_prefix_len xs d up) low (has d)

    pub find_of_none : (i < length xs → HoldsAt (λ x. has_key key k x ≡ false) xs i) → find (has_key key k) xs ≡ None
    find_of_none none = find_none_at_prefix_len xs up (absent_at none)

    remove_of_found : (d : X) → i < length xs → HoldsAt (λ x. has_key key k x ≡ true) xs i → remove xs i ≡ without_key key k xs
    remove_of_found d low has =
        subst (λ (j : ℕ). j < length xs → has_key key k (get_or xs j d) ≡ true → remove xs j ≡ without_key key k xs) (sym at)
        (remove_at_prefix_len xs d up) low (has d)

    without_key_of_none : (i < length xs → HoldsAt (λ x. has_key key k x ≡ false) xs i) → xs ≡ without_key key k xs
    without_key_of_none none = without_key_at_prefix_len xs up (absent_at none)

  -- the piece without what a search finds in a list that equals the piece
  module _ (l xs : List X) (list : l ≡ xs) {i : ℕ} (up : IsAscending key xs) (at : i ≡ prefix_len (is_before key k) l) where
    pub remove_of_found_in : (d : X) → i < length l → HoldsAt (λ x. has_key key k x ≡ true) l i → remove xs i ≡ without_key key k xs
    remove_of_found_in d low has =
        remove_of_found xs i up (at ∙ ap (prefix_len (is_before key k)) list) d (subst (λ (it : List X). i < length it) list low)
        (subst (λ (it : List X). HoldsAt (λ x. has_key key k x ≡ true) it i) list has)

    pub without_key_of_none_in : (i < length l → HoldsAt (λ x. has_key key k x ≡ false) l i) → xs ≡ without_key key k xs
    without_key_of_none_in none =
        without_key_of_none xs i up (at ∙ ap (prefix_len (is_before key k)) list)
        (subst (λ (it : List X). i < length it → HoldsAt (λ x. has_key key k x ≡ false) it i) list none)

module _ {X : Type 0} (key : X → List ℕ) (x : X) where
  pub with_item_append_of_all_less : (xs ys : List X) → AllCompare key (key x) Less xs → with_item key x (xs ++ ys) ≡ xs ++ with_item key x ys
  with_item_append_of_all_less [] ys all = refl
  with_item_append_of_all_less (z ∷ xs) ys all = rw all.0 (ap (λ l. z ∷ l) (with_item_append_of_all_less xs ys all.1))

  pub with_item_append_of_all_greater : (xs ys : List X) → AllCompare key (key x) Greater ys → with_item key x (xs ++ ys) ≡ with_item key x xs ++ ys
  with_item_append_of_all_greater xs ys all =
      let lower = filter (is_before key (key x)) xs in
      let upper = filter (is_after key (key x)) xs in
      let prefix : filter (is_before key (key x)) (xs ++ ys) ≡ lower = filter-append (is_before key (key x)) xs ys
      ∙ ap (λ l. lower ++ l) (filter_before_of_all_greater key (key x) ys all) ∙ append-nil lower in
      let rest : filter (is_after key (key x)) (xs ++ ys) ≡ upper ++ ys = filter-append (is_after key (key x)) xs ys
      ∙ ap (λ l. upper ++ l) (filter_after_of_all_greater key (key x) ys all) in
      ap (λ l. l ++ x ∷ filter (is_after key (key x)) (xs ++ ys)) prefix ∙ ap (λ l. lower ++ x ∷ l) rest ∙ sym (append_assoc lower (x ∷ upper) ys)

  set_at_prefix_len : (xs : List X) (d : X) → IsAscending key xs → prefix_len (is_before key (key x)) xs < length xs
      → has_key key (key x) (get_or xs (prefix_len (is_before key (key x)) xs) d) ≡ true
      → set xs (prefix_len (is_before key (key x)) xs) x ≡ with_item key x xs
  set_at_prefix_len [] d up = λ low has. absurd (omega (arith, low))
  set_at_prefix_len (z ∷ xs) d up =
      elim (slice_cmp nat_cmp (key z) (key x)) as (λ o. slice_cmp nat_cmp (key z) (key x) ≡ o
      → cond (is_lt o) (1 + prefix_len (is_before key (key x)) xs) 0 < length (z ∷ xs)
      → has_key key (key x) (get_or (z ∷ xs) (cond (is_lt o) (1 + prefix_len (is_before key (key x)) xs) 0) d) ≡ true
      → set (z ∷ xs) (cond (is_lt o) (1 + prefix_len (is_before key (key x)) xs) 0) x
      ≡ cond (is_lt o) (z ∷ filter (is_before key (key x)) xs) (filter (is_before key (key x)) xs)
      ++ x ∷ cond (is_gt o) (z ∷ filter (is_after key (key x)) xs) (filter (is_after key (key x)) xs)) [
        | Less ↦ λ e. subst (λ (m : ℕ). m < length (z ∷ xs) → has_key key (key x) (get_or (z ∷ xs) m d) ≡ true
            → set (z ∷ xs) m x ≡ z ∷ filter (is_before key (key x)) xs ++ x ∷ filter (is_after key (key x)) xs)
            {x = suc (prefix_len (is_before key (key x)) xs)} (omega arith)
            (λ low has. ap (λ l. z ∷ l) (set_at_prefix_len xs d up.1 (omega (arith, low)) has))
        | Equal ↦ λ e low has.
            let all = all_greater_of_head_not_before key (key x) z xs up.0 (ap is_lt e) in
            rw (filter_before_of_all_greater key (key x) xs all, filter_after_of_all_greater key (key x) xs all) refl
        | Greater ↦ λ e low has. absurd (true≢false (sym has ∙ ap is_eq e))
      ] refl

  insert_at_prefix_len : (xs : List X) (d : X) → IsAscending key xs
      → (prefix_len (is_before key (key x)) xs < length xs → has_key key (key x) (get_or xs (prefix_len (is_before key (key x)) xs) d) ≡ false)
      → insert xs (prefix_len (is_before key (key x)) xs) x ≡ with_item key x xs
  insert_at_prefix_len [] d up = λ no. refl
  insert_at_prefix_len (z ∷ xs) d up =
      elim (slice_cmp nat_cmp (key z) (key x)) as (λ o. slice_cmp nat_cmp (key z) (key x) ≡ o
      → (cond (is_lt o) (1 + prefix_len (is_before key (key x)) xs) 0 < length (z ∷ xs)
      → has_key key (key x) (get_or (z ∷ xs) (cond (is_lt o) (1 + prefix_len (is_before key (key x)) xs) 0) d) ≡ false)
      → insert (z ∷ xs) (cond (is_lt o) (1 + prefix_len (is_before key (key x)) xs) 0) x
      ≡ cond (is_lt o) (z ∷ filter (is_before key (key x)) xs) (filter (is_before key (key x)) xs)
      ++ x ∷ cond (is_gt o) (z ∷ filter (is_after key (key x)) xs) (filter (is_after key (key x)) xs)) [
        | Less ↦ λ e. subst (λ (m : ℕ). (m < length (z ∷ xs) → has_key key (key x) (get_or (z ∷ xs) m d) ≡ false)
            → insert (z ∷ xs) m x ≡ z ∷ filter (is_before key (key x)) xs ++ x ∷ filter (is_after key (key x)) xs)
            {x = suc (prefix_len (is_before key (key x)) xs)} (omega arith)
            (λ no. ap (λ l. z ∷ l) (insert_at_prefix_len xs d up.1 (λ low. no (omega (arith, low)))))
        | Equal ↦ λ e no. absurd (true≢false (sym (ap is_eq e) ∙ no (omega arith)))
        | Greater ↦ λ e no.
            let all = all_greater_of_head_not_before key (key x) z xs up.0 (ap is_lt e) in
            rw (filter_before_of_all_greater key (key x) xs all, filter_after_of_all_greater key (key x) xs all) refl
      ] refl

  -- the piece with the item, set or inserted, if `i` is the position of its key
  module _ (xs : List X) (i : ℕ) (up : IsAscending key xs) (at : i ≡ prefix_len (is_before key (key x)) xs) where
    pub set_of_found : i < length xs → HoldsAt (λ y. has_key key (key x) y ≡ true) xs i → set xs i x ≡ with_item key x xs
    set_of_found low has =
        subst (λ (j : ℕ). j < length xs → has_key key (key x) (get_or xs j x) ≡ true → set xs j x ≡ with_item key x xs) (sym at)
        (set_at_prefix_len xs x up) low (has x)

    pub insert_of_none : (i < length xs → HoldsAt (λ y. has_key key (key x) y ≡ false) xs i) → insert xs i x ≡ with_item key x xs
    insert_of_none none =
        subst (λ (j : ℕ). (j < length xs → has_key key (key x) (get_or xs j x) ≡ false) → insert xs j x ≡ with_item key x xs) (sym at)
        (insert_at_prefix_len xs x up) (λ low. none low x)

-- what is said of a list and of a name and kind holds of a list that equals it, and of an item's own name and kind
module _ {X : Type 0} (name : X → List ℕ) (is_tree : X → Bool) (x : X) (l xs : List X) (n : List ℕ) (t : Bool)
    (list : l ≡ xs) (named : n ≡ name x) (kind : t ≡ is_tree x) where
  pub at_own_key : (P : List X → List ℕ → Type 0) → P l (key_of n t) → P xs (item_key name is_tree x)
  at_own_key P h =
      subst (λ (it : List X). P it (item_key name is_tree x)) list
      (subst (λ (u : Bool). P l (key_of (name x) u)) kind (subst (λ (m : List ℕ). P l (key_of m t)) named h))

  position_of_own_key : (i : ℕ) → i ≡ prefix_len (is_before (item_key name is_tree) (key_of n t)) l
      → i ≡ prefix_len (is_before (item_key name is_tree) (item_key name is_tree x)) xs
  position_of_own_key i = at_own_key (λ it k. i ≡ prefix_len (is_before (item_key name is_tree) k) it)

  module _ (i : ℕ) (up : IsAscending (item_key name is_tree) xs) (at : i ≡ prefix_len (is_before (item_key name is_tree) (key_of n t)) l) where
    pub set_of_own_found : i < length l → HoldsAt (λ y. has_key (item_key name is_tree) (key_of n t) y ≡ true) l i
        → set xs i x ≡ with_item (item_key name is_tree) x xs
    set_of_own_found low has =
        set_of_found (item_key name is_tree) x xs i up (position_of_own_key i at) (subst (λ (it : List X). i < length it) list low)
        (at_own_key (λ it k. HoldsAt (λ y. has_key (item_key name is_tree) k y ≡ true) it i) has)

    pub insert_of_own_none : (i < length l → HoldsAt (λ y. has_key (item_key name is_tree) (key_of n t) y ≡ false) l i)
        → insert xs i x ≡ with_item (item_key name is_tree) x xs
    insert_of_own_none none =
        insert_of_none (item_key name is_tree) x xs i up (position_of_own_key i at)
        (at_own_key (λ it k. i < length it → HoldsAt (λ y. has_key (item_key name is_tree) k y ≡ false) it i) none)

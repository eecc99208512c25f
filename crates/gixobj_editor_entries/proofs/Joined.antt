-- An edit of one piece of a list in pieces changes the list as it changes the piece, and keeps the invariant of pieces;
-- the proofs of `pieces`, `positions` and `splits` use it, and those of open directories.
use Rattle.std.proofs.Common.{◌≡◌, ◌≢◌, ◌∙◌, ◌+◌, ◌<◌, ℕ, zero, suc, Bool, true, false, not, cond, List, [], ◌∷◌, ◌++◌, Less, Equal, Greater, Ordering, Result}
use Rattle.std.proofs.Common.{Ok, Err, HoldsAt, get_or, set, length, length-append, map, refl, sym, ap, subst, arith}
use mathlib.Core.Bool.{true≢false}
use mathlib.Core.List.{append_assoc}
use Rattle.std.specs.Cmp.Lexicographic.{slice_cmp}
use Rattle.std.specs.List.{AllByRecursion, filter, find, flat_map, insert, remove}
use Rattle.std.specs.Ordering.{is_gt, is_lt, nat_cmp, ordering_reverse}
use Rattle.std.specs.Result.{OnErr}
use Rattle.std.proofs.lemmas.Cmp.{nat_list_cmp_total}
use Rattle.std.proofs.lemmas.List.{get_or-set_same}
use Rattle.std.proofs.lemmas.List.Elements.{filter-append}
use Rattle.gixobj_tree_entries.specs.KeyOrder.{EachLater}
use Rattle.gixobj_editor_entries.specs.Pieces.{AreNonEmpty, HoldsAtPiece, IsAscending, IsPieced, begins_at_most, has_key, is_after, is_before, item_key, joined}
use Rattle.gixobj_editor_entries.specs.Pieces.{pieces_at_most, with_item, without_key}
use Rattle.gixobj_editor_entries.proofs.BinarySearch.{greater_of_compare, less_of_compare}
use Rattle.gixobj_editor_entries.proofs.Keys.{each_later_of_append_left, each_later_of_append_right, is_ascending_of_append_right}
use Rattle.gixobj_editor_entries.proofs.OnePiece.{AllCompare, all_greater_of_head_not_before, all_less_of_next_not_after, find_append_of_all_greater}
use Rattle.gixobj_editor_entries.proofs.OnePiece.{find_append_of_all_less, with_item_append_of_all_greater, with_item_append_of_all_less}
use Rattle.gixobj_editor_entries.proofs.OnePiece.{without_key_of_all_greater, without_key_of_all_less}
use Rattle.gixobj_editor_entries.proofs.Sublists.{all_pass, all_weaker, later_append, later_kept}

module _ {X Y : Type 0} (items : Y → List X) where
  pub each_later_in_piece : (R : X → X → Type 0) (ps : List Y) (m : ℕ) (d : Y) → m < length ps → EachLater R (flat_map items ps)
      → EachLater R (items (get_or ps m d))
  each_later_in_piece R [] m d low h = absurd (omega (arith, low))
  each_later_in_piece R (p ∷ ps) zero d low h = each_later_of_append_left R (items p) (flat_map items ps) h
  each_later_in_piece R (p ∷ ps) (suc m) d low h =
      each_later_in_piece R ps m d (omega (arith, low)) (each_later_of_append_right R (items p) (flat_map items ps) h)

  pub flat_map_set_same : (ps : List Y) (i : ℕ) (q : Y) → items q ≡ items (get_or ps i q) → flat_map items (set ps i q) ≡ flat_map items ps
  flat_map_set_same [] i q same = refl
  flat_map_set_same (p ∷ ps) zero q same = ap (λ l. l ++ flat_map items ps) same
  flat_map_set_same (p ∷ ps) (suc i) q same = ap (λ l. items p ++ l) (flat_map_set_same ps i q same)

  pub are_non_empty_set : (ps : List Y) (i : ℕ) (q : Y) → (items q ≢ []) → AreNonEmpty items ps → AreNonEmpty items (set ps i q)
  are_non_empty_set [] i q there filled = tt
  are_non_empty_set (p ∷ ps) zero q there filled = (there, filled.1)
  are_non_empty_set (p ∷ ps) (suc i) q there filled = (filled.0, are_non_empty_set ps i q there filled.1)

  pub non_empty_at : (ps : List Y) (i : ℕ) (d : Y) → i < length ps → AreNonEmpty items ps → items (get_or ps i d) ≢ []
  non_empty_at [] i d low filled = absurd (omega (arith, low))
  non_empty_at (p ∷ ps) zero d low filled = filled.0
  non_empty_at (p ∷ ps) (suc i) d low filled = non_empty_at ps i d (omega (arith, low)) filled.1

  -- a piece in two
  pub flat_map_split : (ps : List Y) (i : ℕ) (left right : Y) → i < length ps → items left ++ items right ≡ items (get_or ps i left)
      → flat_map items (insert (set ps i left) (suc i) right) ≡ flat_map items ps
  flat_map_split [] i left right low is = absurd (omega (arith, low))
  flat_map_split (p ∷ ps) zero left right low is = sym (append_assoc (items left) (items right) (flat_map items ps)) ∙ ap (λ l. l ++ flat_map items ps) is
  flat_map_split (p ∷ ps) (suc i) left right low is = ap (λ l. items p ++ l) (flat_map_split ps i left right (omega (arith, low)) is)

  pub are_non_empty_insert : (ps : List Y) (i : ℕ) (q : Y) → (items q ≢ []) → AreNonEmpty items ps → AreNonEmpty items (insert ps i q)
  are_non_empty_insert [] zero q there filled = (there, tt)
  are_non_empty_insert [] (suc i) q there filled = (there, tt)
  are_non_empty_insert (p ∷ ps) zero q there filled = (there, filled)
  are_non_empty_insert (p ∷ ps) (suc i) q there filled = (filled.0, are_non_empty_insert ps i q there filled.1)

  -- an empty piece is removed
  pub flat_map_remove_empty : (ps : List Y) (i : ℕ) (q : Y) → i < length ps → items q ≡ []
      → flat_map items (remove (set ps i q) i) ≡ flat_map items (set ps i q)
  flat_map_remove_empty [] i q low empty = absurd (omega (arith, low))
  flat_map_remove_empty (p ∷ ps) zero q low empty = ap (λ l. l ++ flat_map items ps) (sym empty)
  flat_map_remove_empty (p ∷ ps) (suc i) q low empty = ap (λ l. items p ++ l) (flat_map_remove_empty ps i q (omega (arith, low)) empty)

  pub are_non_empty_remove : (ps : List Y) (i : ℕ) (q : Y) → AreNonEmpty items ps → AreNonEmpty items (remove (set ps i q) i)
  are_non_empty_remove [] zero q filled = tt
  are_non_empty_remove [] (suc i) q filled = tt
  are_non_empty_remove (p ∷ ps) zero q filled = filled.1
  are_non_empty_remove (p ∷ ps) (suc i) q filled = (filled.0, are_non_empty_remove ps i q filled.1)

  -- a piece gets longer or shorter
  pub length_flat_map_longer : (ps : List Y) (i : ℕ) (q : Y) (n : ℕ) → i < length ps → length (items q) ≡ length (items (get_or ps i q)) + n
      → length (flat_map items (set ps i q)) ≡ length (flat_map items ps) + n
  length_flat_map_longer [] i q n low is = absurd (omega (arith, low))
  length_flat_map_longer (p ∷ ps) zero q n low is = omega (arith, length-append (items q) (flat_map items ps), length-append (items p) (flat_map items ps), is)
  length_flat_map_longer (p ∷ ps) (suc i) q n low is =
      let rest = length_flat_map_longer ps i q n (omega (arith, low)) is in
      omega (arith, length-append (items p) (flat_map items (set ps i q)), length-append (items p) (flat_map items ps), rest)

  pub length_flat_map_shorter : (ps : List Y) (i : ℕ) (q : Y) (n : ℕ) → i < length ps → length (items q) + n ≡ length (items (get_or ps i q))
      → length (flat_map items (set ps i q)) + n ≡ length (flat_map items ps)
  length_flat_map_shorter [] i q n low is = absurd (omega (arith, low))
  length_flat_map_shorter (p ∷ ps) zero q n low is = omega (arith, length-append (items q) (flat_map items ps), length-append (items p) (flat_map items ps), is)
  length_flat_map_shorter (p ∷ ps) (suc i) q n low is =
      let rest = length_flat_map_shorter ps i q n (omega (arith, low)) is in
      omega (arith, length-append (items p) (flat_map items (set ps i q)), length-append (items p) (flat_map items ps), rest)

  pub length_joined_longer : (first : List X) (ps : List Y) (i : ℕ) (q : Y) (n : ℕ) → i < length ps → length (items q) ≡ length (items (get_or ps i q)) + n
      → length (joined items first (set ps i q)) ≡ length (joined items first ps) + n
  length_joined_longer first ps i q n low is =
      let rest = length_flat_map_longer ps i q n low is in
      omega (arith, length-append first (flat_map items (set ps i q)), length-append first (flat_map items ps), rest)

  pub length_joined_shorter : (first : List X) (ps : List Y) (i : ℕ) (q : Y) (n : ℕ) → i < length ps → length (items q) + n ≡ length (items (get_or ps i q))
      → length (joined items first (set ps i q)) + n ≡ length (joined items first ps)
  length_joined_shorter first ps i q n low is =
      let rest = length_flat_map_shorter ps i q n low is in
      omega (arith, length-append first (flat_map items (set ps i q)), length-append first (flat_map items ps), rest)

  -- pieces of the same items
  pub map_set_same : (ps : List Y) (i : ℕ) (q : Y) → items q ≡ items (get_or ps i q) → map items (set ps i q) ≡ map items ps
  map_set_same [] i q same = refl
  map_set_same (p ∷ ps) zero q same = ap (λ l. l ∷ map items ps) same
  map_set_same (p ∷ ps) (suc i) q same = ap (λ l. items p ∷ l) (map_set_same ps i q same)

  flat_map_of_map : (ps : List Y) → flat_map items ps ≡ flat_map (λ (l : List X). l) (map items ps)
  flat_map_of_map [] = refl
  flat_map_of_map (p ∷ ps) = ap (λ l. items p ++ l) (flat_map_of_map ps)

  are_non_empty_map : (ps : List Y) → AreNonEmpty items ps → AreNonEmpty (λ (l : List X). l) (map items ps)
  are_non_empty_map [] filled = tt
  are_non_empty_map (p ∷ ps) filled = (filled.0, are_non_empty_map ps filled.1)

  are_non_empty_of_map : (ps : List Y) → AreNonEmpty (λ (l : List X). l) (map items ps) → AreNonEmpty items ps
  are_non_empty_of_map [] filled = tt
  are_non_empty_of_map (p ∷ ps) filled = (filled.0, are_non_empty_of_map ps filled.1)

  pieces_at_most_of_map : (key : X → List ℕ) (k : List ℕ) (ps : List Y)
      → pieces_at_most key k items ps ≡ pieces_at_most key k (λ (l : List X). l) (map items ps)
  pieces_at_most_of_map key k [] = refl
  pieces_at_most_of_map key k (p ∷ ps) = ap (λ (n : ℕ). cond (begins_at_most key k (items p)) (1 + n) 0) (pieces_at_most_of_map key k ps)

  module _ (ps qs : List Y) (same : map items qs ≡ map items ps) where
    pub flat_map_of_same_map : flat_map items qs ≡ flat_map items ps
    flat_map_of_same_map = flat_map_of_map qs ∙ ap (flat_map (λ (l : List X). l)) same ∙ sym (flat_map_of_map ps)

    pub are_non_empty_of_same_map : AreNonEmpty items ps → AreNonEmpty items qs
    are_non_empty_of_same_map filled = are_non_empty_of_map qs (subst (AreNonEmpty (λ (l : List X). l)) (sym same) (are_non_empty_map ps filled))

    pub pieces_at_most_of_same_map : (key : X → List ℕ) (k : List ℕ) → pieces_at_most key k items qs ≡ pieces_at_most key k items ps
    pieces_at_most_of_same_map key k =
        pieces_at_most_of_map key k qs ∙ ap (pieces_at_most key k (λ (l : List X). l)) same ∙ sym (pieces_at_most_of_map key k ps)

  module _ (key : X → List ℕ) (k : List ℕ) where
    greater_of_not_at_most : (o : Ordering) → not (is_gt o) ≡ false → o ≡ Greater
    greater_of_not_at_most Less h = absurd (true≢false h)
    greater_of_not_at_most Equal h = absurd (true≢false h)
    greater_of_not_at_most Greater h = refl

    all_greater_of_not_begins : (ys zs : List X) → ys ≢ [] → begins_at_most key k ys ≡ false → IsAscending key (ys ++ zs) → AllCompare key k Greater (ys ++ zs)
    all_greater_of_not_begins [] zs there h up = absurd (there refl)
    all_greater_of_not_begins (y ∷ ys) zs there h up =
        let e : slice_cmp nat_cmp (key y) k ≡ Greater = greater_of_not_at_most _ h in
        (e, all_greater_of_head_not_before key k y (ys ++ zs) up.0 (ap is_lt e))

    all_less_of_next_begins : (xs ys zs : List X) → ys ≢ [] → begins_at_most key k ys ≡ true → IsAscending key (xs ++ (ys ++ zs)) → AllCompare key k Less xs
    all_less_of_next_begins xs [] zs there h up = absurd (there refl)
    all_less_of_next_begins xs (y ∷ ys) zs there h up = all_less_of_next_not_after key k y xs (ys ++ zs) up h

    -- if no piece begins at most by the key, all items are greater
    pub all_greater_of_no_pieces : (ps : List Y) → IsAscending key (flat_map items ps) → AreNonEmpty items ps → pieces_at_most key k items ps ≡ 0
        → AllCompare key k Greater (flat_map items ps)
    all_greater_of_no_pieces [] up filled none = tt
    all_greater_of_no_pieces (p ∷ ps) up filled none =
        elim (begins_at_most key k (items p)) as (λ b. begins_at_most key k (items p) ≡ b → cond b (1 + pieces_at_most key k items ps) 0 ≡ 0
        → AllCompare key k Greater (items p ++ flat_map items ps)) [
          | true ↦ λ h e. absurd (omega (arith, e))
          | false ↦ λ h e. all_greater_of_not_begins (items p) (flat_map items ps) filled.0 h up
        ] refl none

    pub find_joined_first : (first : List X) (ps : List Y) → IsAscending key (first ++ flat_map items ps) → AreNonEmpty items ps
        → pieces_at_most key k items ps ≡ 0 → find (has_key key k) (first ++ flat_map items ps) ≡ find (has_key key k) first
    find_joined_first first ps up filled none = find_append_of_all_greater key k first (flat_map items ps)
        (all_greater_of_no_pieces ps (is_ascending_of_append_right key first (flat_map items ps) up) filled none)

    -- if a piece begins at most by the key, the first one does
    pub pieces_at_most_suc : (p : Y) (ps : List Y) (i : ℕ) → pieces_at_most key k items (p ∷ ps) ≡ suc i
        → record { begins : begins_at_most key k (items p) ≡ true; rest : pieces_at_most key k items ps ≡ i }
    pieces_at_most_suc p ps i =
        elim (begins_at_most key k (items p)) as (λ b. begins_at_most key k (items p) ≡ b → cond b (1 + pieces_at_most key k items ps) 0 ≡ suc i
        → record { begins : begins_at_most key k (items p) ≡ true; rest : pieces_at_most key k items ps ≡ i }) [
          | true ↦ λ h e. record { begins = h; rest = omega (arith, e) }
          | false ↦ λ h e. absurd (omega (arith, e))
        ] refl

    pub all_less_before_piece : (first : List X) (p : Y) (ps : List Y) → IsAscending key (first ++ (items p ++ flat_map items ps)) → AreNonEmpty items (p ∷ ps)
        → begins_at_most key k (items p) ≡ true → AllCompare key k Less first
    all_less_before_piece first p ps up filled h = all_less_of_next_begins first (items p) (flat_map items ps) filled.0 h up

    pub find_joined_more : (first : List X) (ps : List Y) (i : ℕ) (d : Y) → IsAscending key (first ++ flat_map items ps) → AreNonEmpty items ps
        → pieces_at_most key k items ps ≡ suc i
        → find (has_key key k) (first ++ flat_map items ps) ≡ find (has_key key k) (items (get_or ps i d))
    find_joined_more first [] i d up filled at = absurd (omega (arith, at))
    find_joined_more first (p ∷ ps) zero d up filled at =
        let parts = pieces_at_most_suc p ps zero at in
        let up_rest = is_ascending_of_append_right key first (items p ++ flat_map items ps) up in
        find_append_of_all_less key k first (items p ++ flat_map items ps) (all_less_before_piece first p ps up filled parts.begins)
        ∙ find_joined_first (items p) ps up_rest filled.1 parts.rest
    find_joined_more first (p ∷ ps) (suc i) d up filled at =
        let parts = pieces_at_most_suc p ps (suc i) at in
        let up_rest = is_ascending_of_append_right key first (items p ++ flat_map items ps) up in
        find_append_of_all_less key k first (items p ++ flat_map items ps) (all_less_before_piece first p ps up filled parts.begins)
        ∙ find_joined_more (items p) ps i d up_rest filled.1 parts.rest

    pub without_key_joined_first : (first : List X) (ps : List Y) → IsAscending key (first ++ flat_map items ps) → AreNonEmpty items ps
        → pieces_at_most key k items ps ≡ 0 → without_key key k first ++ flat_map items ps ≡ without_key key k (first ++ flat_map items ps)
    without_key_joined_first first ps up filled none =
        let up_rest = is_ascending_of_append_right key first (flat_map items ps) up in
        sym (filter-append (λ x. not (has_key key k x)) first (flat_map items ps)
        ∙ ap (λ l. without_key key k first ++ l) (without_key_of_all_greater key k (flat_map items ps) (all_greater_of_no_pieces ps up_rest filled none)))

    -- the first piece stays, and so what is removed comes from the others
    without_key_append : (first : List X) (p : Y) (ps : List Y) → IsAscending key (first ++ (items p ++ flat_map items ps)) → AreNonEmpty items (p ∷ ps)
        → begins_at_most key k (items p) ≡ true
        → first ++ without_key key k (items p ++ flat_map items ps) ≡ without_key key k (first ++ (items p ++ flat_map items ps))
    without_key_append first p ps up filled begins =
        sym (filter-append (λ x. not (has_key key k x)) first (items p ++ flat_map items ps)
        ∙ ap (λ l. l ++ without_key key k (items p ++ flat_map items ps))
        (without_key_of_all_less key k first (all_less_before_piece first p ps up filled begins)))

    pub without_key_joined_more : (first : List X) (ps : List Y) (i : ℕ) (q : Y) → IsAscending key (first ++ flat_map items ps) → AreNonEmpty items ps
        → pieces_at_most key k items ps ≡ suc i → items q ≡ without_key key k (items (get_or ps i q))
        → first ++ flat_map items (set ps i q) ≡ without_key key k (first ++ flat_map items ps)
    without_key_joined_more first [] i q up filled at is = absurd (omega (arith, at))
    without_key_joined_more first (p ∷ ps) zero q up filled at is =
        let parts = pieces_at_most_suc p ps zero at in
        let up_rest = is_ascending_of_append_right key first (items p ++ flat_map items ps) up in
        ap (λ l. first ++ l) (ap (λ l. l ++ flat_map items ps) is ∙ without_key_joined_first (items p) ps up_rest filled.1 parts.rest)
        ∙ without_key_append first p ps up filled parts.begins
    without_key_joined_more first (p ∷ ps) (suc i) q up filled at is =
        let parts = pieces_at_most_suc p ps (suc i) at in
        let up_rest = is_ascending_of_append_right key first (items p ++ flat_map items ps) up in
        ap (λ l. first ++ l) (without_key_joined_more (items p) ps i q up_rest filled.1 parts.rest is) ∙ without_key_append first p ps up filled parts.begins

  module _ (key : X → List ℕ) (x : X) where
    pub with_item_joined_first : (first : List X) (ps : List Y) → IsAscending key (first ++ flat_map items ps) → AreNonEmpty items ps
        → pieces_at_most key (key x) items ps ≡ 0 → with_item key x first ++ flat_map items ps ≡ with_item key x (first ++ flat_map items ps)
    with_item_joined_first first ps up filled none =
        sym (with_item_append_of_all_greater key x first (flat_map items ps)
        (all_greater_of_no_pieces key (key x) ps (is_ascending_of_append_right key first (flat_map items ps) up) filled none))

    pub with_item_joined_more : (first : List X) (ps : List Y) (i : ℕ) (q : Y) → IsAscending key (first ++ flat_map items ps) → AreNonEmpty items ps
        → pieces_at_most key (key x) items ps ≡ suc i → items q ≡ with_item key x (items (get_or ps i q))
        → first ++ flat_map items (set ps i q) ≡ with_item key x (first ++ flat_map items ps)
    with_item_joined_more first [] i q up filled at is = absurd (omega (arith, at))
    with_item_joined_more first (p ∷ ps) zero q up filled at is =
        let parts = pieces_at_most_suc key (key x) p ps zero at in
        let up_rest = is_ascending_of_append_right key first (items p ++ flat_map items ps) up in
        ap (λ l. first ++ l) (ap (λ l. l ++ flat_map items ps) is ∙ with_item_joined_first (items p) ps up_rest filled.1 parts.rest)
        ∙ sym (with_item_append_of_all_less key x first (items p ++ flat_map items ps) (all_less_before_piece key (key x) first p ps up filled parts.begins))
    with_item_joined_more first (p ∷ ps) (suc i) q up filled at is =
        let parts = pieces_at_most_suc key (key x) p ps (suc i) at in
        let up_rest = is_ascending_of_append_right key first (items p ++ flat_map items ps) up in
        ap (λ l. first ++ l) (with_item_joined_more (items p) ps i q up_rest filled.1 parts.rest is)
        ∙ sym (with_item_append_of_all_less key x first (items p ++ flat_map items ps) (all_less_before_piece key (key x) first p ps up filled parts.begins))

-- an inserted item
module _ {X : Type 0} (key : X → List ℕ) (x : X) where
  less_of_is_after : (z : X) → is_after key (key x) z ≡ true → slice_cmp nat_cmp (key x) (key z) ≡ Less
  less_of_is_after z h = nat_list_cmp_total.antisymm (key x) (key z) ∙ ap ordering_reverse (greater_of_compare _ (sym h))

  pub is_ascending_with_item : (xs : List X) → IsAscending key xs → IsAscending key (with_item key x xs)
  is_ascending_with_item xs up =
      let R : X → X → Type 0 = λ y z. slice_cmp nat_cmp (key y) (key z) ≡ Less in
      let lower = filter (is_before key (key x)) xs in
      let upper = filter (is_after key (key x)) xs in
      let above : AllByRecursion (R x) upper = all_weaker (λ z. is_after key (key x) z ≡ true) (R x) (λ z h. less_of_is_after z h) upper
      (all_pass (is_after key (key x)) xs) in
      later_append R lower (x ∷ upper) (later_kept R (is_before key (key x)) xs up) (above, later_kept R (is_after key (key x)) xs up)
      (all_weaker (λ y. is_before key (key x) y ≡ true) (λ y. AllByRecursion (R y) (x ∷ upper))
      (λ y h. (less_of_compare _ h, all_weaker (R x) (R y) (λ z r. nat_list_cmp_total.trans (key y) (key x) (key z) (less_of_compare _ h) r) upper above))
      lower (all_pass (is_before key (key x)) xs))

  append_cons_ne_nil : (xs ys : List X) → xs ++ x ∷ ys ≢ []
  append_cons_ne_nil [] ys e = absurd (cc e)
  append_cons_ne_nil (z ∷ xs) ys e = absurd (cc e)

  pub with_item_ne_nil : (xs : List X) → with_item key x xs ≢ []
  with_item_ne_nil xs = append_cons_ne_nil (filter (is_before key (key x)) xs) (filter (is_after key (key x)) xs)

-- the invariant of the pieces that an edit leaves
module _ {X Y : Type 0} (name : X → List ℕ) (is_tree : X → Bool) (items : Y → List X) (first : List X) (more : List Y) (after : List X)
    (rest : List Y) where
  pub is_pieced_of_with_item : (x : X) → IsPieced name is_tree items first more
      → joined items after rest ≡ with_item (item_key name is_tree) x (joined items first more) → AreNonEmpty items rest
      → IsPieced name is_tree items after rest
  is_pieced_of_with_item x pieced is filled = record {
    ascending = subst (IsAscending (item_key name is_tree)) (sym is)
        (is_ascending_with_item (item_key name is_tree) x (joined items first more) pieced.ascending);
    non_empty = filled;
  }

  pub is_pieced_of_without_key : (k : List ℕ) → IsPieced name is_tree items first more
      → joined items after rest ≡ without_key (item_key name is_tree) k (joined items first more) → AreNonEmpty items rest
      → IsPieced name is_tree items after rest
  is_pieced_of_without_key k pieced is filled = record {
    ascending = subst (IsAscending (item_key name is_tree)) (sym is)
        (later_kept _ (λ x. not (has_key (item_key name is_tree) k x)) (joined items first more) pieced.ascending);
    non_empty = filled;
  }

  pub is_pieced_of_same : IsPieced name is_tree items first more → joined items after rest ≡ joined items first more → AreNonEmpty items rest
      → IsPieced name is_tree items after rest
  is_pieced_of_same pieced is filled = record {
    ascending = subst (IsAscending (item_key name is_tree)) (sym is) pieced.ascending;
    non_empty = filled;
  }

-- pieces of the same items make the same list
module _ {X Y : Type 0} (items : Y → List X) (first after : List X) (more rest : List Y) (same : after ≡ first) (each : map items rest ≡ map items more) where
  pub joined_of_same_map : joined items after rest ≡ joined items first more
  joined_of_same_map = ap (λ l. l ++ flat_map items rest) same ∙ ap (λ l. first ++ l) (flat_map_of_same_map items more rest each)

  pub is_pieced_of_same_map : (name : X → List ℕ) (is_tree : X → Bool) → IsPieced name is_tree items first more → IsPieced name is_tree items after rest
  is_pieced_of_same_map name is_tree pieced =
      is_pieced_of_same name is_tree items first more after rest pieced joined_of_same_map (are_non_empty_of_same_map items more rest each pieced.non_empty)

-- the number of a piece after the first, as an index
module _ {Y : Type 0} (P : Y → Type 0) (first : Y) (ps : List Y) (at j : ℕ) (is : at ≡ suc j) where
  pub holds_at_index : HoldsAtPiece P first ps at → HoldsAt P ps j
  holds_at_index h = subst (HoldsAtPiece P first ps) is h

  pub holds_at_piece_of_set : (q : Y) → j < length ps → P q → HoldsAtPiece P first (set ps j q) at
  holds_at_piece_of_set q low here = subst (HoldsAtPiece P first (set ps j q)) (sym is) (λ d. subst P (sym (get_or-set_same ps j q d low)) here)

pub on_err_of : {T E P : Type 0} (r : Result T E) → P → OnErr r P
on_err_of (Ok x) p = tt
on_err_of (Err e) p = p

-- The parents of a commit that a loop has seen, and what it has counted of them.
use Rattle.std.proofs.Common.{◌≡◌, ◌+◌, ◌-◌, ◌<◌, ◌||◌, ◌&&◌, ◌==◌, ℕ, zero, suc, not, Bool, true, false, cond, List, [], ◌∷◌, drop, length, refl, set}
use Rattle.std.proofs.Common.{slice_index, sym, ap, take, ◌∙◌, subst, ⊎_elim, arith, nat_eq}
use Rattle.std.proofs.lemmas.Bool.{and_from, and_left, not_from_false, cases_eq, eq-eqb, ne_eqb, or_left, or_right}
use Rattle.std.proofs.lemmas.List.{drop_more, length-set, get_or-set_other, get_or-set_same, take_more}
use Rattle.std.proofs.lemmas.List.Folds.{list_any-append}
use Rattle.gixobj_walks_order.specs.Counts.{AreBelow, freed_parents, is_marked, is_named}

or_false : (b : Bool) → (b || false) ≡ b
or_false true = refl
or_false false = refl

or_swapped : (a b : Bool) → (a || b) ≡ (b || a)
or_swapped true true = refl
or_swapped true false = refl
or_swapped false true = refl
or_swapped false false = refl

pub named_more : (q : ℕ) (xs : List ℕ) (i : ℕ) → i < length xs
    → is_named q (take (i + 1) xs) ≡ (is_named q (take i xs) || nat_eq q (slice_index xs i))
named_more q xs i less =
    ap (is_named q) (take_more xs i 0 less)
    ∙ list_any-append (nat_eq q) (take i xs) (slice_index xs i ∷ [])
    ∙ ap (λ b. is_named q (take i xs) || b) (or_false (nat_eq q (slice_index xs i)))

pub named_before : (q : ℕ) (xs : List ℕ) (i : ℕ) → i < length xs
    → is_named q (drop i xs) ≡ (is_named q (drop (i + 1) xs) || nat_eq q (slice_index xs i))
named_before q xs i less =
    ap (is_named q) (drop_more xs i 0 less) ∙ or_swapped (nat_eq q (slice_index xs i)) (is_named q (drop (i + 1) xs))

pub named_at : (xs : List ℕ) (i : ℕ) → i < length xs → is_named (slice_index xs i) xs ≡ true
named_at [] i less = absurd (omega arith)
named_at (x ∷ xs) zero less = or_left (nat_eq x x) (is_named x xs) (eq-eqb x x refl)
named_at (x ∷ xs) (suc i) less =
    or_right (nat_eq (slice_index xs i) x) (is_named (slice_index xs i) xs) (named_at xs i (omega arith))

-- the tests of one number, before and after a parent is seen
module _ (q p : ℕ) (before after : Bool) (more : after ≡ (before || nat_eq q p)) where
  after_same : q ≡ p → after ≡ true
  after_same same = more ∙ or_right before (nat_eq q p) (eq-eqb q p same)

  after_other : (q ≡ p → ⊥) → after ≡ before
  after_other other = more ∙ ap (λ b. before || b) (ne_eqb q p other) ∙ or_false before

  -- a parent that was seen before adds nothing
  pub after_again : (q ≡ p → before ≡ true) → after ≡ before
  after_again known = ⊎_elim
      (λ same. after_same same ∙ sym (known same))
      (λ other. after_other other)
      (cases_eq q p)

  module _ (counts stamps : List ℕ) (stamp first : ℕ) (within : p < length counts) (stamps_within : p < length stamps)
      (new : nat_eq (slice_index stamps p) stamp ≡ false)
      (stamped : nat_eq (slice_index stamps q) stamp ≡ before) where
    unpassed : q ≡ p → before ≡ false
    unpassed same = sym stamped ∙ ap (λ k. nat_eq (slice_index stamps k) stamp) same ∙ new

    -- its stamp says that the parent is seen
    pub stamped_more : nat_eq (slice_index (set stamps p stamp) q) stamp ≡ after
    stamped_more = ⊎_elim
        (λ same. eq-eqb (slice_index (set stamps p stamp) q) stamp
        (ap (λ k. slice_index (set stamps p stamp) k) same ∙ get_or-set_same stamps p stamp 0 stamps_within)
        ∙ sym (after_same same))
        (λ other. ap (λ s. nat_eq s stamp) (get_or-set_other stamps p q stamp 0 other) ∙ stamped ∙ sym (after_other other))
        (cases_eq q p)

    -- a parent that is seen for the first time is counted
    pub counted_more : slice_index counts q ≡ first + cond before 1 0
        → slice_index (set counts p (slice_index counts p + 1)) q ≡ first + cond after 1 0
    counted_more counted = ⊎_elim
        (λ same.
        let now : slice_index (set counts p (slice_index counts p + 1)) q ≡ slice_index counts p + 1 =
        ap (λ k. slice_index (set counts p (slice_index counts p + 1)) k) same
        ∙ get_or-set_same counts p (slice_index counts p + 1) 0 within in
        let old : slice_index counts p ≡ first + 0 =
        ap (λ k. slice_index counts k) (sym same) ∙ counted ∙ ap (λ b. first + cond b 1 0) (unpassed same) in
        let end : first + cond after 1 0 ≡ first + 1 = ap (λ b. first + cond b 1 0) (after_same same) in
        omega arith)
        (λ other. get_or-set_other counts p q (slice_index counts p + 1) 0 other ∙ counted
        ∙ ap (λ b. first + cond b 1 0) (sym (after_other other)))
        (cases_eq q p)

    -- and taken from the count of its pending children
    pub released_more : 0 < slice_index counts p → slice_index counts q + cond before 1 0 ≡ first
        → slice_index (set counts p (slice_index counts p - 1)) q + cond after 1 0 ≡ first
    released_more some counted = ⊎_elim
        (λ same.
        let now : slice_index (set counts p (slice_index counts p - 1)) q ≡ slice_index counts p - 1 =
        ap (λ k. slice_index (set counts p (slice_index counts p - 1)) k) same
        ∙ get_or-set_same counts p (slice_index counts p - 1) 0 within in
        let old : slice_index counts p + 0 ≡ first =
        ap (λ k. slice_index counts k + 0) (sym same) ∙ ap (λ b. slice_index counts q + cond b 1 0) (sym (unpassed same)) ∙ counted in
        let end : cond {A = ℕ} after 1 0 ≡ 1 = ap (λ b. cond {A = ℕ} b 1 0) (after_same same) in
        omega arith)
        (λ other.
        let now : slice_index (set counts p (slice_index counts p - 1)) q ≡ slice_index counts q =
        get_or-set_other counts p q (slice_index counts p - 1) 0 other in
        let end : cond {A = ℕ} after 1 0 ≡ cond {A = ℕ} before 1 0 = ap (λ b. cond {A = ℕ} b 1 0) (after_other other) in
        omega (arith, now, end))
        (cases_eq q p)

-- what was written below a bound is below it
pub below_set : (bound : ℕ) (xs : List ℕ) (p v : ℕ) → AreBelow bound xs → v < bound → p < length xs
    → AreBelow bound (set xs p v)
below_set bound xs p v each here within k less = ⊎_elim
    (λ same. subst (λ x. x < bound) (sym (ap (λ j. slice_index (set xs p v) j) same ∙ get_or-set_same xs p v 0 within)) here)
    (λ other. subst (λ x. x < bound) (sym (get_or-set_other xs p k v 0 other))
    (each k (subst (λ n. k < n) (length-set xs p v) less)))
    (cases_eq k p)

-- ---- a parent that is seen, from the last to the first

module _ (initial counts stamps ps : List ℕ) (stamp left i : ℕ) (next : left ≡ i + 1) (less : i < length ps)
    (len : length counts ≡ length initial) (stamps_len : length stamps ≡ length counts)
    (within : slice_index ps i < length initial)
    (new : nat_eq (slice_index stamps (slice_index ps i)) stamp ≡ false)
    (stamped : (q : ℕ) → q < length initial → nat_eq (slice_index stamps q) stamp ≡ is_named q (drop left ps))
  where
    earlier : (q : ℕ) → is_named q (drop i ps) ≡ (is_named q (drop left ps) || nat_eq q (slice_index ps i))
    earlier q = named_before q ps i less ∙ ap (λ k. is_named q (drop k ps) || nat_eq q (slice_index ps i)) (sym next)

    -- the parent isn't among those that were seen
    pub is_new : is_named (slice_index ps i) (drop left ps) ≡ false
    is_new = sym (stamped (slice_index ps i) within) ∙ new

    pub stamped_at : (q : ℕ) → q < length initial
        → nat_eq (slice_index (set stamps (slice_index ps i) stamp) q) stamp ≡ is_named q (drop i ps)
    stamped_at q small = stamped_more q (slice_index ps i) (is_named q (drop left ps)) (is_named q (drop i ps)) (earlier q)
        counts stamps stamp 0 (omega arith) (omega arith) new (stamped q small)

    -- its count hasn't changed yet
    pub first_count : ((q : ℕ) → q < length initial
        → slice_index counts q + cond {A = ℕ} (is_named q (drop left ps)) 1 0 ≡ slice_index initial q)
        → slice_index counts (slice_index ps i) ≡ slice_index initial (slice_index ps i)
    first_count counted =
        let here : slice_index counts (slice_index ps i) + 0 ≡ slice_index initial (slice_index ps i) =
        ap (λ b. slice_index counts (slice_index ps i) + cond {A = ℕ} b 1 0) (sym is_new) ∙ counted (slice_index ps i) within in
        omega arith

    module _ (some : 0 < slice_index counts (slice_index ps i))
        (counted : (q : ℕ) → q < length initial
        → slice_index counts q + cond {A = ℕ} (is_named q (drop left ps)) 1 0 ≡ slice_index initial q) where
      pub released_at : (q : ℕ) → q < length initial
          → slice_index (set counts (slice_index ps i) (slice_index counts (slice_index ps i) - 1)) q
          + cond {A = ℕ} (is_named q (drop i ps)) 1 0 ≡ slice_index initial q
      released_at q small = released_more q (slice_index ps i) (is_named q (drop left ps)) (is_named q (drop i ps)) (earlier q)
          counts stamps stamp (slice_index initial q) (omega arith) (omega arith) new (stamped q small) some (counted q small)

    module _ (selected : List Bool) where
      freed_step : (b : Bool) → (is_marked selected (slice_index ps i) && (slice_index initial (slice_index ps i) == 1)
          && not (is_named (slice_index ps i) (drop (i + 1) ps))) ≡ b
          → freed_parents selected initial (drop i ps)
          ≡ cond b (slice_index ps i ∷ freed_parents selected initial (drop left ps)) (freed_parents selected initial (drop left ps))
      freed_step b test =
          ap (freed_parents selected initial) (drop_more ps i 0 less)
          ∙ ap (λ t. cond t (slice_index ps i ∷ freed_parents selected initial (drop (i + 1) ps)) (freed_parents selected initial (drop (i + 1) ps))) test
          ∙ ap (λ k. cond b (slice_index ps i ∷ freed_parents selected initial (drop k ps)) (freed_parents selected initial (drop k ps))) (sym next)

      new_here : is_named (slice_index ps i) (drop (i + 1) ps) ≡ false
      new_here = ap (λ k. is_named (slice_index ps i) (drop k ps)) (sym next) ∙ is_new

      -- the parent has no other pending child
      pub freed_yes : is_marked selected (slice_index ps i) ≡ true → slice_index initial (slice_index ps i) ≡ 1
          → freed_parents selected initial (drop i ps) ≡ slice_index ps i ∷ freed_parents selected initial (drop left ps)
      freed_yes marked one = freed_step true
          (and_from (is_marked selected (slice_index ps i) && (slice_index initial (slice_index ps i) == 1))
          (not (is_named (slice_index ps i) (drop (i + 1) ps)))
          (and_from (is_marked selected (slice_index ps i)) (slice_index initial (slice_index ps i) == 1) marked
          (eq-eqb (slice_index initial (slice_index ps i)) 1 one))
          (not_from_false (is_named (slice_index ps i) (drop (i + 1) ps)) new_here))

      -- the parent has one, or isn't selected
      pub freed_no : (is_marked selected (slice_index ps i) && (slice_index initial (slice_index ps i) == 1)) ≡ false
          → freed_parents selected initial (drop i ps) ≡ freed_parents selected initial (drop left ps)
      freed_no other = freed_step false
          (and_left (is_marked selected (slice_index ps i) && (slice_index initial (slice_index ps i) == 1))
          (not (is_named (slice_index ps i) (drop (i + 1) ps))) other)

-- A set of numbers below a bound in which each number leads to another one has a number that leads to itself.
use Rattle.std.proofs.Common.{◌≡◌, ◌+◌, ◌<◌, ℕ, zero, suc, true, false, eqb, List, [], ◌∷◌, length, sym, subst, ⊎_elim, arith}
use Rattle.std.specs.List.{AllByRecursion, IsDistinct, list_any}
use Rattle.std.proofs.lemmas.Bool.{cases_Bool, eqb-true, or_cases, or_parts}
use Rattle.std.proofs.lemmas.Map.Steps.{length-le_from_distinct_below}

-- a number that is not in the list differs from each element
apart : (v : ℕ) (seen : List ℕ) → list_any (eqb v) seen ≡ false → AllByRecursion (λ y. eqb v y ≡ false) seen
apart v [] absent = tt
apart v (x ∷ xs) absent = let parts = or_parts (eqb v x) (list_any (eqb v) xs) absent in (parts.0, apart v xs parts.1)

distinct_more : (v : ℕ) (seen : List ℕ) → IsDistinct eqb seen → list_any (eqb v) seen ≡ false
    → IsDistinct eqb (v ∷ seen)
unfolding IsDistinct
distinct_more v seen distinct absent = (apart v seen absent, distinct)

-- what holds of a number and of each element holds of the longer list's
each_more : (P : ℕ → Type 0) (v : ℕ) (seen : List ℕ) → P v → ((u : ℕ) → list_any (eqb u) seen ≡ true → P u)
    → (u : ℕ) → list_any (eqb u) (v ∷ seen) ≡ true → P u
each_more P v seen here each u has = ⊎_elim
    (λ same. subst P (sym (eqb-true u v same)) here)
    (λ rest. each u rest)
    (or_cases (eqb u v) (list_any (eqb u) seen) has)

module _ (T : ℕ → ℕ → Type 0) (S : ℕ → Type 0) (bound : ℕ)
    (transitive : (a b c : ℕ) → T a b → T b c → T a c)
    (below : (v : ℕ) → S v → v < bound)
    (next : (v : ℕ) → S v → (w : ℕ) × T v w × S w) where
  -- from a number on, when the elements of the list lead to it
  cycle_after : (fuel : ℕ) (seen : List ℕ) → IsDistinct eqb seen
      → ((u : ℕ) → list_any (eqb u) seen ≡ true → u < bound)
      → (v : ℕ) → S v → ((u : ℕ) → list_any (eqb u) seen ≡ true → T u v) → bound < length seen + fuel
      → (u : ℕ) × S u × T u u
  cycle_after zero seen distinct small v member leads long =
      absurd (omega (arith, length-le_from_distinct_below seen bound distinct small))
  cycle_after (suc fuel) seen distinct small v member leads long = ⊎_elim
      (λ again. (v, member, leads v again))
      (λ new. let w = next v member in
      cycle_after fuel (v ∷ seen) (distinct_more v seen distinct new)
      (each_more (λ u. u < bound) v seen (below v member) small)
      w.0 w.2
      (each_more (λ u. T u w.0) v seen w.1 (λ u has. transitive u v w.0 (leads u has) w.1))
      (omega arith))
      (cases_Bool (list_any (eqb v) seen))

  -- a set below a bound, in which each number leads to one of the set, has one that leads to itself
  pub cycle_from_successors : (v : ℕ) → S v → (u : ℕ) × S u × T u u
  unfolding IsDistinct
  cycle_from_successors v member =
      cycle_after (suc bound) [] tt (λ u has. cc) v member (λ u has. cc) (omega arith)

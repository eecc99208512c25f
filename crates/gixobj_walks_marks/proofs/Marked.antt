-- Marks by their numbers, and what lists of numbers contain.
use Rattle.std.proofs.Common.{◌≡◌, ◌≢◌, ◌⊎◌, ◌+◌, ◌<◌, ℕ, zero, suc, Bool, true, false, not, cond, List, [], ◌∷◌, Some, Result, Ok, Err, IfOk, OnErr, OnOk}
use Rattle.std.proofs.Common.{Contains, length, get_or, refl, subst, sym, ap, ◌∙◌, inl, inr, arith}
use Rattle.std.specs.List.{AllByRecursion, slice_get}
use Rattle.std.proofs.Math.ListN.{set}
use Rattle.std.proofs.lemmas.Bool.{cases_Bool, false≢true}
use Rattle.std.proofs.lemmas.List.Elements.{All-contains, All-from_recursion, Contains-get_or, Contains-push, Contains-push_cases, recursion_from_All}
use Rattle.std.proofs.lemmas.List.Sums.{sum_by-set}
use Rattle.std.proofs.lemmas.Option.{get_or_from_slice_get, slice_get-get_or, slice_get_within}
use Rattle.gixobj_walks_graph.specs.Numbered.{IsMarked}
use Rattle.gixobj_walks_marks.specs.Spreading.{unmarked}

-- ---- elements of a list by their numbers

-- an element that was written
pub slice_get-set_same : {X : Type 0} (xs : List X) (i : ℕ) (y : X) → i < length xs → slice_get (set xs i y) i ≡ Some y
slice_get-set_same [] i y inside = absurd (omega arith)
slice_get-set_same (x ∷ xs) zero y inside = refl
slice_get-set_same (x ∷ xs) (suc i) y inside = slice_get-set_same xs i y (omega arith)

-- an element that was not written
pub slice_get-set_other : {X : Type 0} (xs : List X) (i j : ℕ) (y : X) → i ≢ j
    → slice_get (set xs i y) j ≡ slice_get xs j
slice_get-set_other [] i j y other = refl
slice_get-set_other (x ∷ xs) zero zero y other = absurd (other refl)
slice_get-set_other (x ∷ xs) zero (suc j) y other = refl
slice_get-set_other (x ∷ xs) (suc i) zero y other = refl
slice_get-set_other (x ∷ xs) (suc i) (suc j) y other = slice_get-set_other xs i j y (λ same. other (ap suc same))

-- two numbers are the same or differ
pub same_or_other : (i j : ℕ) → (i ≡ j) ⊎ (i ≢ j)
same_or_other zero zero = inl refl
same_or_other zero (suc j) = inr (λ same. omega arith)
same_or_other (suc i) zero = inr (λ same. omega arith)
same_or_other (suc i) (suc j) =
    elim (same_or_other i j) [
      | inl same ↦ inl (ap suc same)
      | inr other ↦ inr (λ same. other (omega arith))
    ]

-- ---- marks

-- a number that is marked is inside
pub marked_within : (marked : List Bool) (number : ℕ) → IsMarked marked number → number < length marked
marked_within marked number is = slice_get_within marked number true is

-- a mark as code reads it
pub marked_reads : (marked : List Bool) (number : ℕ) → IsMarked marked number → get_or marked number false ≡ true
marked_reads marked number is = get_or_from_slice_get marked number true false is

-- a mark that code has read
pub read_marked : (marked : List Bool) (number : ℕ) → number < length marked → get_or marked number false ≡ true
    → IsMarked marked number
read_marked marked number inside is = slice_get-get_or marked number false inside ∙ ap Some is

-- a number whose mark code has read as none
pub read_unmarked : (marked : List Bool) (number : ℕ) → get_or marked number false ≡ false
    → ¬ IsMarked marked number
read_unmarked marked number none is = false≢true (sym none ∙ marked_reads marked number is)

-- each number is marked or isn't
pub marked_or_not : (marked : List Bool) (number : ℕ) → IsMarked marked number ⊎ (¬ IsMarked marked number)
marked_or_not [] number = inr (λ is. omega (arith, marked_within [] number is))
marked_or_not (mark ∷ marked) zero =
    elim (cases_Bool mark) [
      | inl is ↦ inl (ap Some is)
      | inr none ↦ inr (λ is. cc)
    ]
marked_or_not (mark ∷ marked) (suc number) = marked_or_not marked number

-- a number that was marked stays marked
pub set_keeps : (marked : List Bool) (i number : ℕ) → i < length marked → IsMarked marked number
    → IsMarked (set marked i true) number
set_keeps marked i number inside is =
    elim (same_or_other i number) [
      | inl same ↦ subst (λ (n : ℕ). IsMarked (set marked i true) n) same (slice_get-set_same marked i true inside)
      | inr other ↦ slice_get-set_other marked i number true other ∙ is
    ]

-- a number that is marked afterwards was marked, or is the one that was set
pub set_cases : (marked : List Bool) (i number : ℕ) → IsMarked (set marked i true) number
    → IsMarked marked number ⊎ (i ≡ number)
set_cases marked i number is =
    elim (same_or_other i number) [
      | inl same ↦ inr same
      | inr other ↦ inl (sym (slice_get-set_other marked i number true other) ∙ is)
    ]

-- one number fewer is unmarked
pub unmarked_set : (marked : List Bool) (i : ℕ) → i < length marked → get_or marked i false ≡ false
    → unmarked (set marked i true) + 1 ≡ unmarked marked
unmarked_set marked i inside none =
    let counted = sum_by-set (λ (b : Bool). cond (not b) 1 0) marked i true false inside in
    let before : ◌≡◌ {A = ℕ} (cond (not (get_or marked i false)) 1 0) 1 = ap (λ (b : Bool). cond (not b) 1 0) none in
    omega (arith, counted, before)

-- ---- what lists contain

-- an empty list contains nothing
pub nothing_contained : {X : Type 0} (x : X) → ¬ Contains [] x
nothing_contained x has = omega (arith, has.1)

-- a list of one contains it
pub one_contains : {X : Type 0} (x : X) → Contains (x ∷ []) x
one_contains x = Contains-push [] x

-- a list of one contains nothing else
pub one_contained : {X : Type 0} (x y : X) → Contains (x ∷ []) y → x ≡ y
one_contained x y has =
    elim (Contains-push_cases [] x y has) [
      | inl none ↦ absurd (nothing_contained y none)
      | inr same ↦ same
    ]

-- what holds by recursion, of each element that the list contains
pub each_contained : {X : Type 0} (P : X → Type 0) (xs : List X) (x : X) → AllByRecursion P xs → Contains xs x → P x
each_contained P xs x all has = All-contains P xs x (All-from_recursion P xs all) has

-- what holds of each element that the list contains, by recursion
pub from_each_contained : {X : Type 0} (P : X → Type 0) (xs : List X) → ((x : X) → Contains xs x → P x)
    → AllByRecursion P xs
from_each_contained P xs each = recursion_from_All P xs
    (λ k d inside. each (get_or xs k d) (Contains-get_or xs k d inside))

-- a list without elements
pub empty_list : {X : Type 0} (xs : List X) → length xs ≡ 0 → xs ≡ []
empty_list [] none = refl
empty_list (x ∷ xs) none = absurd (omega arith)

-- ---- results

-- what holds anyway holds of a failure
pub on_err : {T E P : Type 0} (outcome : Result T E) → P → OnErr outcome P
on_err (Ok value) holds = tt
on_err (Err error) holds = holds

-- what follows from what a failure ensures
pub on_err_then : {T E P Q : Type 0} (outcome : Result T E) → (P → Q) → OnErr outcome P → OnErr outcome Q
on_err_then (Ok value) then holds = tt
on_err_then (Err error) then holds = then holds

-- what follows from what a success ensures
pub on_ok_then : {T E P Q : Type 0} (outcome : Result T E) → (P → Q) → OnOk outcome P → OnOk outcome Q
on_ok_then (Ok value) then holds = then holds
on_ok_then (Err error) then holds = tt

-- what holds anyway holds of a success
pub on_ok : {T E P : Type 0} (outcome : Result T E) → P → OnOk outcome P
on_ok (Ok value) holds = holds
on_ok (Err error) holds = tt

-- what follows from what a success ensures of its value
pub if_ok_then : {T E : Type 0} {P Q : T → Type 0} (outcome : Result T E) → ((value : T) → P value → Q value)
    → IfOk outcome P → IfOk outcome Q
if_ok_then (Ok value) then holds = then value holds
if_ok_then (Err error) then holds = tt

-- Tests of code on marks, and lists of the numbers that pass them.
use Rattle.std.proofs.Common.{◌≡◌, ◌⊎◌, ◌↔◌, ◌+◌, ◌<◌, ◌++◌, ℕ, Bool, true, false, not, cond, List, [], ◌∷◌, Contains, IsTrue, get_or, length, refl, subst, sym}
use Rattle.std.proofs.Common.{◌∙◌, inl, inr, arith, length-append}
use Rattle.std.specs.List.Sorted.{IsStrictlyIncreasing}
use Rattle.std.proofs.lemmas.Bool.{cases_lt, false≢true}
use Rattle.std.proofs.lemmas.List.{get_or_append_left}
use Rattle.std.proofs.lemmas.List.Elements.{Contains-append_left, Contains-get_or, Contains-push, Contains-push_cases}
use Rattle.std.proofs.Math.Seq.{get_or-append_seam}
use Rattle.gixobj_walks_graph.specs.Numbered.{IsMarked}
use Rattle.gixobj_walks_marks.specs.Chosen.{IsChosen, ListsBelow}
use Rattle.gixobj_walks_marks.proofs.Marked.{marked_reads, read_marked, read_unmarked, same_or_other}

-- ---- answers

-- the test fails, and the fact doesn't hold
pub fails : {P : Type 0} (is : Bool) → is ≡ false → (¬ P) → IsTrue is ↔ P
fails is none never = ((λ test. absurd (false≢true (sym none ∙ test))), (λ fact. absurd (never fact)))

-- the fact holds where the test is true
pub holds_if_true : {P : Type 0} (is : Bool) → (IsTrue is ↔ P) → is ≡ true → P
holds_if_true is decides holds = decides.0 holds

-- the fact doesn't hold where the test is false
pub fails_if_false : {P : Type 0} (is : Bool) → (IsTrue is ↔ P) → is ≡ false → ¬ P
fails_if_false is decides none fact = false≢true (sym none ∙ decides.1 fact)

-- the negation of a test
pub not_decides : {P : Type 0} (is : Bool) → (IsTrue is ↔ P) → IsTrue (not is) ↔ (¬ P)
not_decides true decides = ((λ test. absurd (false≢true test)), (λ never. absurd (never (decides.0 refl))))
not_decides false decides = ((λ test fact. false≢true (decides.1 fact)), (λ never. refl))

-- the second of two tests, where the first is true
pub and_then : {P Q : Type 0} (is : Bool) → P → (IsTrue is ↔ Q) → IsTrue is ↔ (P × Q)
and_then is holds decides = ((λ test. (holds, decides.0 test)), (λ both. decides.1 both.1))

-- two tests of which the first is false
pub and_else : {P Q : Type 0} (is : Bool) → is ≡ false → (¬ P) → IsTrue is ↔ (P × Q)
and_else is none never = fails is none (λ both. never both.0)

-- the second of two tests, where the first is false
pub or_else : {P Q : Type 0} (is : Bool) → (¬ P) → (IsTrue is ↔ Q) → IsTrue is ↔ (P ⊎ Q)
or_else is never decides = (
  (λ test. inr (decides.0 test)),
  (λ either. elim either [ inl first ↦ absurd (never first) | inr second ↦ decides.1 second ]),
)

-- ---- marks

-- a mark that code reads
pub mark_decides : (marked : List Bool) (number : ℕ) → number < length marked
    → IsTrue (get_or marked number false) ↔ IsMarked marked number
mark_decides marked number inside =
    ((λ test. read_marked marked number inside test), (λ is. marked_reads marked number is))

-- a test on a commit of the left side
pub chosen_left : (left right : List Bool) (number : ℕ) → number < length left → number < length right
    → get_or left number false ≡ true → IsTrue (not (get_or right number false)) ↔ IsChosen left right number
chosen_left left right number in_left in_right on_left = and_then (not (get_or right number false))
    (read_marked left number in_left on_left)
    (not_decides (get_or right number false) (mark_decides right number in_right))

-- a test on another commit
pub chosen_else : (left right : List Bool) (number : ℕ) → get_or left number false ≡ false
    → IsTrue (get_or left number false) ↔ IsChosen left right number
chosen_else left right number none = and_else (get_or left number false) none (read_unmarked left number none)

-- ---- lists of numbers

-- a larger number at the end
ascending_push : (xs : List ℕ) (i : ℕ) → IsStrictlyIncreasing xs → ((x : ℕ) → Contains xs x → x < i)
    → IsStrictlyIncreasing (xs ++ i ∷ [])
ascending_push xs i ascending below k inside =
    elim (cases_lt (k + 1) (length xs)) [
      | inl before ↦
          let first : get_or (xs ++ i ∷ []) k 0 ≡ get_or xs k 0 =
          get_or_append_left xs (i ∷ []) 0 k (omega arith) in
          let second : get_or (xs ++ i ∷ []) (k + 1) 0 ≡ get_or xs (k + 1) 0 =
          get_or_append_left xs (i ∷ []) 0 (k + 1) before in
          omega (arith, first, second, ascending k before)
      | inr last ↦
          let longer : length (xs ++ i ∷ []) ≡ length xs + 1 = length-append xs (i ∷ []) in
          let here : k + 1 ≡ length xs = omega (arith, longer, inside) in
          let first : get_or (xs ++ i ∷ []) k 0 ≡ get_or xs k 0 =
          get_or_append_left xs (i ∷ []) 0 k (omega arith) in
          let second : get_or (xs ++ i ∷ []) (k + 1) 0 ≡ i =
          subst (λ (n : ℕ). get_or (xs ++ i ∷ []) n 0 ≡ i) (sym here) (get_or-append_seam xs i [] 0) in
          omega (arith, first, second, below (get_or xs k 0) (Contains-get_or xs k 0 (omega arith)))
    ]

-- the next number, if it passes
pub lists_more : (P : ℕ → Type 0) (bound : ℕ) (old new : List ℕ) (is : Bool) → (IsTrue is ↔ P bound)
    → new ≡ cond is (old ++ bound ∷ []) old → ListsBelow P bound old → ListsBelow P (bound + 1) new
lists_more P bound old new true decides pushed lists = record {
  exact = λ number. (
    (λ has. elim (Contains-push_cases old bound number
        (subst (λ (xs : List ℕ). Contains xs number) pushed has)) [
          | inl before ↦
              let here = (lists.exact number).0 before in
              (omega (arith, here.0), here.1)
          | inr same ↦ (omega (arith, same), subst P same (decides.0 refl))
        ]),
    (λ below. subst (λ (xs : List ℕ). Contains xs number) (sym pushed)
        (elim (same_or_other bound number) [
          | inl same ↦ subst (λ (n : ℕ). Contains (old ++ bound ∷ []) n) same (Contains-push old bound)
          | inr other ↦ Contains-append_left old (bound ∷ []) number
              ((lists.exact number).1 (omega (arith, below.0, other), below.1))
        ])),
  );
  ascending = subst IsStrictlyIncreasing (sym pushed)
      (ascending_push old bound lists.ascending (λ x has. ((lists.exact x).0 has).0));
}
lists_more P bound old new false decides same_list lists = record {
  exact = λ number. (
    (λ has.
        let here = (lists.exact number).0 (subst (λ (xs : List ℕ). Contains xs number) same_list has) in
        (omega (arith, here.0), here.1)),
    (λ below. subst (λ (xs : List ℕ). Contains xs number) (sym same_list)
        (elim (same_or_other bound number) [
          | inl same ↦ absurd (false≢true (decides.1 (subst P (sym same) below.1)))
          | inr other ↦ (lists.exact number).1 (omega (arith, below.0, other), below.1)
        ])),
  );
  ascending = subst IsStrictlyIncreasing (sym same_list) lists.ascending;
}

-- A written tree next to its base: as long as it is a prefix, and after it differs.
use Rattle.std.proofs.Common.{◌≡◌, ◌≢◌, ◌∙◌, ◌≤◌, ◌+◌, ℕ, suc, zero, List, [], ◌∷◌, ◌++◌, Err, Ok, Result, Some, length, take, sym, ap, arith}
use Rattle.std.specs.Prelude.{OnErr, slice_get}
use Rattle.std.proofs.lemmas.List.{take_more}
use Rattle.std.proofs.lemmas.Option.{get_or_from_slice_get, slice_get_within}

-- a prefix of the base with the next element is a prefix
pub take_succ_snoc : {X : Type 0} (base : List X) (n : ℕ) (x : X) → slice_get base n ≡ Some x → take (n + 1) base ≡ take n base ++ x ∷ []
take_succ_snoc base n x is = take_more base n x (slice_get_within base n x is) ∙ ap (λ y. take n base ++ y ∷ []) (get_or_from_slice_get base n x x is)

-- a prefix with another element than the next is no prefix of the base
pub prefix_differs_ne : {X : Type 0} (base : List X) (n : ℕ) (x : X) → n ≤ length base → slice_get base n ≢ Some x → (rest : List X)
    → (take n base ++ x ∷ []) ++ rest ≢ base
prefix_differs_ne [] zero x low other rest is = cc is
prefix_differs_ne [] (suc n) x low other rest is = absurd (omega (arith, low))
prefix_differs_ne (b ∷ bs) zero x low other rest is = let head : x ≡ b = cc is in other (ap Some (sym head))
prefix_differs_ne (b ∷ bs) (suc n) x low other rest is = let tail : (take n bs ++ x ∷ []) ++ rest ≡ bs = cc is in
    prefix_differs_ne bs n x (omega (arith, low)) other rest tail

-- a statement that holds is true of any error
pub on_err_of : {X E : Type 0} (r : Result X E) (P : Type 0) → P → OnErr r P
on_err_of (Ok x) P p = tt
on_err_of (Err error) P p = p

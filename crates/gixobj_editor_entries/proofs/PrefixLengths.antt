-- The number of the first elements that pass a test which each element passes if a later one does: for the binary search
-- of pieces.
use Rattle.std.proofs.Common.{◌≡◌, ◌∙◌, ◌+◌, ◌<◌, ◌≤◌, inl, inr, ℕ, zero, suc, Bool, true, false, List, [], ◌∷◌, get_or, length, sym, arith}
use mathlib.Core.Bool.{true≢false}
use Rattle.std.specs.List.{prefix_len}
use Rattle.std.proofs.lemmas.Bool.Decides.{leb_tells}
use Rattle.std.proofs.lemmas.List.Elements.{All-from_recursion}
use Rattle.std.proofs.lemmas.List.Sums.{prefix_len_passes}
use Rattle.gixobj_tree_entries.specs.KeyOrder.{EachLater}

module _ {X : Type 0} (q : X → Bool) where
  -- an element passes if a later one does
  abbrev pub IsPrefixClosed : List X → Type 0
  IsPrefixClosed xs = EachLater (λ x y. q y ≡ true → q x ≡ true) xs

  pub lt_prefix_len_of_passes : (xs : List X) → IsPrefixClosed xs → (m : ℕ) (d : X) → m < length xs → q (get_or xs m d) ≡ true → m + 1 ≤ prefix_len q xs
  lt_prefix_len_of_passes [] closed m d low passes = absurd (omega arith)
  lt_prefix_len_of_passes (x ∷ xs) closed zero d low passes = rw passes (omega arith)
  lt_prefix_len_of_passes (x ∷ xs) closed (suc m) d low passes =
      let here : q x ≡ true = All-from_recursion (λ y. q y ≡ true → q x ≡ true) xs closed.0 m d (omega arith) passes in
      let rest : m + 1 ≤ prefix_len q xs = lt_prefix_len_of_passes xs closed.1 m d (omega arith) passes in
      rw here (omega (arith, rest))

  pub prefix_len_le_of_fails : (xs : List X) (m : ℕ) (d : X) → q (get_or xs m d) ≡ false → prefix_len q xs ≤ m
  prefix_len_le_of_fails xs m d fails =
      elim (leb_tells (prefix_len q xs) m) [
        | inl within ↦ within.1
        | inr past ↦ absurd (true≢false (sym (prefix_len_passes q xs m d past.1) ∙ fails))
      ]

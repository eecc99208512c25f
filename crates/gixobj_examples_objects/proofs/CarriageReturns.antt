-- Bytes that don't end in a carriage return are kept; the proof of `ends_in_return` uses it.
use Rattle.std.proofs.Common.{◌≡◌, ◌∙◌, ◌==◌, ◌++◌, ◌∷◌, ℕ, [], Bool, List, ap, arith, cond, false, length, length-append, refl, subst, sym, true}
use Rattle.std.proofs.lemmas.Bool.Decides.{nat_tests}
use Rattle.std.specs.List.{IsLastAndRest}
use Rattle.std.specs.Prelude.{◌↔◌, IsFalse}
use Rattle.gix_object.specs.BodyLines.{without_last_byte}

pub without_last_same : (byte : ℕ) (xs : List ℕ) → without_last_byte byte (xs ++ byte ∷ []) ≡ xs
without_last_same byte [] = ap (λ (b : Bool). cond b [] (byte ∷ [])) (same byte)
  where
    same : (k : ℕ) → (k == k) ≡ true
    same k = grind (arith, nat_tests)
without_last_same byte (x ∷ []) = ap (λ (l : List ℕ). x ∷ l) (without_last_same byte [])
without_last_same byte (x ∷ y ∷ xs) = ap (λ (l : List ℕ). x ∷ l) (without_last_same byte (y ∷ xs))

without_last_other : (byte last : ℕ) (xs : List ℕ) → (last == byte) ≡ false → without_last_byte byte (xs ++ last ∷ []) ≡ xs ++ last ∷ []
without_last_other byte last [] other = ap (λ (b : Bool). cond b [] (last ∷ [])) other
without_last_other byte last (x ∷ []) other = ap (λ (l : List ℕ). x ∷ l) (without_last_other byte last [] other)
without_last_other byte last (x ∷ y ∷ xs) other = ap (λ (l : List ℕ). x ∷ l) (without_last_other byte last (y ∷ xs) other)

shorter : (xs : List ℕ) (x : ℕ) → xs ≡ xs ++ x ∷ [] → ⊥
shorter xs x same = omega (arith, ap length same, length-append xs (x ∷ []))

other_of_kept : (byte last : ℕ) (xs : List ℕ) (b : Bool) → (last == byte) ≡ b → without_last_byte byte (xs ++ last ∷ []) ≡ xs ++ last ∷ [] → b ≡ false
other_of_kept byte last xs false is kept = refl
other_of_kept byte last xs true is kept =
    let same : last ≡ byte = grind (arith, nat_tests) in
    absurd (shorter xs byte (sym (without_last_same byte xs) ∙ subst (λ (k : ℕ). without_last_byte byte (xs ++ k ∷ []) ≡ xs ++ k ∷ []) same kept))

pub kept_iff_other : (bytes rest : List ℕ) (last : ℕ) → IsLastAndRest bytes last rest
    → IsFalse (last == 13) ↔ (without_last_byte 13 bytes ≡ bytes)
kept_iff_other bytes rest last is = (
  λ other. subst (λ (it : List ℕ). without_last_byte 13 it ≡ it) (sym is.0) (without_last_other 13 last rest other),
  λ kept. other_of_kept 13 last rest (last == 13) refl (subst (λ (it : List ℕ). without_last_byte 13 it ≡ it) is.0 kept),
)

pub kept_of_nil : (bytes : List ℕ) → length bytes ≡ 0 → without_last_byte 13 bytes ≡ bytes
kept_of_nil [] empty = refl
kept_of_nil (byte ∷ bytes) empty = absurd (omega (arith, empty))

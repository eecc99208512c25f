-- The last byte of bytes is dropped or kept.
use Rattle.std.proofs.Common.{◌≡◌, ◌≢◌, ◌++◌, ◌∷◌, ◌==◌, ◌∙◌, ap, sym, ℕ, Bool, true, false, cond, List, [], refl, arith}
use Rattle.std.proofs.lemmas.Bool.Decides.{nat_tests}
use Rattle.gixobj_text.specs.BodyLines.{without_last_byte}

cond_true_is_prefix : (b : Bool) (byte : ℕ) (prefix : List ℕ) → b ≡ true → cond b prefix (prefix ++ byte ∷ []) ≡ prefix
cond_true_is_prefix true byte prefix is = refl
cond_true_is_prefix false byte prefix is = cc is

without_last_byte_snoc : (last byte : ℕ) (prefix : List ℕ) → without_last_byte last (prefix ++ byte ∷ []) ≡ cond (byte == last) prefix (prefix ++ byte ∷ [])
without_last_byte_snoc last byte [] = refl
without_last_byte_snoc last byte (first ∷ []) = onto first (byte == last)
  where
    onto : (first : ℕ) (b : Bool) → first ∷ cond b [] (byte ∷ []) ≡ cond b (first ∷ []) (first ∷ byte ∷ [])
    onto first true = refl
    onto first false = refl
without_last_byte_snoc last byte (first ∷ next ∷ rest) = ap (λ (xs : List ℕ). first ∷ xs) (without_last_byte_snoc last byte (next ∷ rest))
    ∙ onto first (byte == last)
  where
    onto : (first : ℕ) (b : Bool) → first ∷ cond b (next ∷ rest) ((next ∷ rest) ++ byte ∷ []) ≡ cond b (first ∷ next ∷ rest)
        (first ∷ (next ∷ rest) ++ byte ∷ [])
    onto first true = refl
    onto first false = refl

eqb_true_of_eq : (byte last : ℕ) → byte ≡ last → (byte == last) ≡ true
eqb_true_of_eq byte last same = grind (arith, nat_tests)

eqb_false_of_ne : (byte last : ℕ) → byte ≢ last → (byte == last) ≡ false
eqb_false_of_ne byte last other = grind (arith, nat_tests)

pub without_last_byte_of_last : (last byte : ℕ) (prefix bytes : List ℕ) → bytes ≡ prefix ++ byte ∷ [] → byte ≡ last → prefix ≡ without_last_byte last bytes
without_last_byte_of_last last byte prefix bytes is same =
    sym (ap (without_last_byte last) is ∙ without_last_byte_snoc last byte prefix
    ∙ ap (λ (b : Bool). cond b prefix (prefix ++ byte ∷ [])) (eqb_true_of_eq byte last same))

pub without_last_byte_of_other : (last byte : ℕ) (prefix bytes : List ℕ) → bytes ≡ prefix ++ byte ∷ [] → byte ≢ last → bytes ≡ without_last_byte last bytes
without_last_byte_of_other last byte prefix bytes is other =
    is ∙ sym (ap (without_last_byte last) is ∙ without_last_byte_snoc last byte prefix
    ∙ ap (λ (b : Bool). cond b prefix (prefix ++ byte ∷ [])) (eqb_false_of_ne byte last other))

-- A test that is one of two.
use Rattle.std.proofs.Common.{◌≡◌, ◌⊎◌, ◌↔◌, Bool, true, false, IsTrue, inl, inr}

-- the first test decides if it is true
pub either_of_first : (first : Bool) (P Q : Type 0) → first ≡ true → (IsTrue first ↔ P) → IsTrue first ↔ (P ⊎ Q)
either_of_first first P Q is_true same = (λ (answer : IsTrue first). inl (same.0 answer), λ (it : P ⊎ Q). is_true)

either_to_second : (first second : Bool) (P Q : Type 0) → first ≡ false → (IsTrue first ↔ P) → (IsTrue second ↔ Q)
    → P ⊎ Q → IsTrue second
either_to_second first second P Q is_false same other (inl it) =
    let is_true : first ≡ true = same.1 it in cc
either_to_second first second P Q is_false same other (inr it) = other.1 it

-- else the second test decides
pub either_of_second : (first second : Bool) (P Q : Type 0) → first ≡ false → (IsTrue first ↔ P) → (IsTrue second ↔ Q)
    → IsTrue second ↔ (P ⊎ Q)
either_of_second first second P Q is_false same other =
    (λ (answer : IsTrue second). inr (other.0 answer), either_to_second first second P Q is_false same other)

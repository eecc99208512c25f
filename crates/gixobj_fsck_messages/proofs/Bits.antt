-- Bits that are set and cleared, and the lowest bit.
use Rattle.std.specs.Prelude.{◌≡◌, ◌≢◌, ◌<◌, ◌≤◌, ◌^◌, ◌*◌, ◌%◌, ◌⊎◌, ◌↔◌, ℕ, bit_and}
use Rattle.std.specs.Int.{bit_at, bit_not, trailing_zeros, w64}
use Rattle.std.specs.Int.RustNames.{bit_or}
use Rattle.std.proofs.Common.{arith, inl, inr, subst, sym, ◌∙◌}
use Rattle.std.proofs.lemmas.Bool.{cases_eq, cases_lt}
use Rattle.std.proofs.lemmas.Nat.{one_shl, or_lt, pow_below, and_le_l}
use Rattle.std.proofs.lemmas.Nat.Bits.{bit_at_set_same, bit_at_set_other, bit_at_clear_same, bit_at_clear_other, bit_at_above, bit_at-trailing_zeros}

-- a number with a bit set stays below a power of two that is above the bit
pub set_bit_lt : (n k : ℕ) → n < 2 ^ 45 → k < 45 → bit_or n (1 * 2 ^ k % 2 ^ 64) < 2 ^ 45
set_bit_lt n k below within =
    let shifted = one_shl k 64 (omega arith) in
    let power = pow_below k 45 within in
    or_lt 45 n (1 * 2 ^ k % 2 ^ 64) below (subst (λ (it : ℕ). it < 2 ^ 45) (sym shifted) power)

-- a bit of a number in which one bit is set
pub set_bit_iff : (n k i : ℕ) → k < 64 → (bit_at (bit_or n (1 * 2 ^ k % 2 ^ 64)) i ≡ 1) ↔ ((bit_at n i ≡ 1) ⊎ (i ≡ k))
set_bit_iff n k i within = (
  λ is_set. elim (cases_eq i k) [ inl same ↦ inr same | inr other ↦ inl (sym (bit_at_set_other w64 n k within i other) ∙ is_set) ],
  λ either. elim (cases_eq i k) [
    | inl same ↦ subst (λ (it : ℕ). bit_at (bit_or n (1 * 2 ^ k % 2 ^ 64)) it ≡ 1) (sym same) (bit_at_set_same w64 n k within)
    | inr other ↦ elim either [ inl was ↦ bit_at_set_other w64 n k within i other ∙ was | inr same ↦ absurd (other same) ]
  ],
)

-- a bit of a number in which one bit is cleared
pub clear_bit_iff : (n k i : ℕ) → k < 64 → i < 64
    → (bit_at (bit_and n (bit_not w64 (1 * 2 ^ k % 2 ^ 64))) i ≡ 1) ↔ ((bit_at n i ≡ 1) × (i ≢ k))
clear_bit_iff n k i within in_range = (
  λ is_set. elim (cases_eq i k) [
    | inl same ↦ let cleared = bit_at_clear_same w64 n k within in
        let one = subst (λ (it : ℕ). bit_at (bit_and n (bit_not w64 (1 * 2 ^ k % 2 ^ 64))) it ≡ 1) same is_set in
        absurd (omega (arith, cleared, one))
    | inr other ↦ (sym (bit_at_clear_other w64 n k within i in_range other) ∙ is_set, other)
  ],
  λ both. bit_at_clear_other w64 n k within i in_range both.1 ∙ both.0,
)

-- the lowest bit of a number below 2 ^ 45 that isn't 0
pub lowest_bit : (n : ℕ) → n ≢ 0 → n < 2 ^ 45
    → (trailing_zeros w64 n < 45) × (bit_at n (trailing_zeros w64 n) ≡ 1) × ((i : ℕ) → bit_at n i ≡ 1 → trailing_zeros w64 n ≤ i)
lowest_bit n positive below =
    let lowest = bit_at-trailing_zeros w64 n (omega arith) (omega arith) in (
      elim (cases_lt (trailing_zeros w64 n) 45) [
        | inl within ↦ within
        | inr above ↦ let no_bit = bit_at_above n 45 (trailing_zeros w64 n) below above in absurd (omega (arith, no_bit, lowest.1))
      ],
      lowest.1,
      λ i is_set. elim (cases_lt i (trailing_zeros w64 n)) [
        | inl lower ↦ let no_bit = lowest.2 i lower in absurd (omega (arith, no_bit, is_set))
        | inr above ↦ above
      ],
    )

-- a number of which a bit is cleared is smaller
pub clear_bit_lt : (n k : ℕ) → k < 64 → bit_at n k ≡ 1 → bit_and n (bit_not w64 (1 * 2 ^ k % 2 ^ 64)) < n
clear_bit_lt n k within is_set =
    let at_most = and_le_l n (bit_not w64 (1 * 2 ^ k % 2 ^ 64)) in
    let cleared = bit_at_clear_same w64 n k within in
    elim (cases_eq (bit_and n (bit_not w64 (1 * 2 ^ k % 2 ^ 64))) n) [
      | inl same ↦ let one = subst (λ (it : ℕ). bit_at it k ≡ 0) same cleared in absurd (omega (arith, one, is_set))
      | inr other ↦ omega (arith, at_most, other)
    ]

-- Bytes that decode to no offset; used by the proof of `offset_from_bytes`.
use Rattle.std.proofs.Common.{◌≡◌, ◌+◌, ◌/◌, ◌%◌, ◌<◌, ℕ, get_or, List, [], ◌∷◌, length, ap, arith, refl}
use Rattle.std.specs.Prelude.{ℤ}
use Rattle.gixobj_actor.specs.Date.{DecodesToOffset, two_digits}

pub offset_len_five : (bytes : List ℕ) (offset : ℤ) → DecodesToOffset bytes offset → length bytes ≡ 5
offset_len_five bytes offset decodes = ap length decodes.encoded

pub no_offset_of_hours : (bytes : List ℕ) → ((number : ℕ) → number < 100 → two_digits number ≡ get_or bytes 1 0 ∷ get_or bytes 2 0 ∷ [] → ⊥)
    → (offset : ℤ) → DecodesToOffset bytes offset → ⊥
no_offset_of_hours bytes none offset decodes =
    let tens : get_or bytes 1 0 ≡ 48 + decodes.hours / 10 = ap (λ (it : List ℕ). get_or it 1 0) decodes.encoded in
    let ones : get_or bytes 2 0 ≡ 48 + decodes.hours % 10 = ap (λ (it : List ℕ). get_or it 2 0) decodes.encoded in
    none decodes.hours decodes.hours_fit (rw (tens, ones) refl)

pub no_offset_of_minutes : (bytes : List ℕ) → ((number : ℕ) → number < 100 → two_digits number ≡ get_or bytes 3 0 ∷ get_or bytes 4 0 ∷ [] → ⊥)
    → (offset : ℤ) → DecodesToOffset bytes offset → ⊥
no_offset_of_minutes bytes none offset decodes =
    let tens : get_or bytes 3 0 ≡ 48 + decodes.minutes / 10 = ap (λ (it : List ℕ). get_or it 3 0) decodes.encoded in
    let ones : get_or bytes 4 0 ≡ 48 + decodes.minutes % 10 = ap (λ (it : List ℕ). get_or it 4 0) decodes.encoded in
    none decodes.minutes (omega (arith, decodes.minutes_fit)) (rw (tens, ones) refl)

pub no_offset_past_59_minutes : (bytes : List ℕ) (minutes : ℕ) → two_digits minutes ≡ get_or bytes 3 0 ∷ get_or bytes 4 0 ∷ [] → 59 < minutes
    → (offset : ℤ) → DecodesToOffset bytes offset → ⊥
no_offset_past_59_minutes bytes minutes digits large offset decodes =
    let tens : get_or bytes 3 0 ≡ 48 + decodes.minutes / 10 = ap (λ (it : List ℕ). get_or it 3 0) decodes.encoded in
    let ones : get_or bytes 4 0 ≡ 48 + decodes.minutes % 10 = ap (λ (it : List ℕ). get_or it 4 0) decodes.encoded in
    let first : 48 + minutes / 10 ≡ get_or bytes 3 0 = ap (λ (it : List ℕ). get_or it 0 0) digits in
    let second : 48 + minutes % 10 ≡ get_or bytes 4 0 = ap (λ (it : List ℕ). get_or it 1 0) digits in
    omega (arith, tens, ones, first, second, large, decodes.minutes_fit)

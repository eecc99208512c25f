-- The length of an encoded time.
use Rattle.std.proofs.Common.{◌≡◌, ◌<◌, ◌≤◌, ◌+◌, ◌*◌, ◌/◌, ◌%◌, ◌^◌, ℕ, zero, suc, List, [], ◌∷◌, ◌++◌, length, arith, ap, ◌∙◌}
use Rattle.std.proofs.lemmas.Fmt.{decimal_digit, decimal_nonempty, decimal_step, length-decimal-le}
use Rattle.std.proofs.lemmas.List.{length-append}
use Rattle.std.specs.Prelude.{IsAscii, ℤ, pos, negsuc, unsigned_abs, decimal, if◌then◌else◌}
use Rattle.std.proofs.lemmas.Str.{IsAscii-append}
use Rattle.gixobj_actor.specs.Date.{is_below_zero, encode_offset, encode_time}

pub decimal_len_one : (number : ℕ) → number < 10 → length (decimal number) ≡ 1
decimal_len_one number small = ap length (decimal_digit number small)

pub decimal_len_succ : (number : ℕ) → 10 ≤ number → number < 2 ^ 64 → length (decimal number) ≡ length (decimal (number / 10)) + 1
decimal_len_succ number large fits = ap length (decimal_step number large fits) ∙ length-append (decimal (number / 10)) ((48 + number % 10) ∷ [])

pub decimal_len_le_twenty : (number : ℕ) → number < 2 ^ 64 → length (decimal number) ≤ 20
decimal_len_le_twenty number fits = length-decimal-le 20 number (omega arith) (omega arith) fits

-- the power of ten with this exponent
abbrev power_of_ten : ℕ → ℕ
power_of_ten zero = 1
power_of_ten (suc zeros) = 10 * power_of_ten zeros

power_of_ten_positive : (zeros : ℕ) → 0 < power_of_ten zeros
power_of_ten_positive zero = omega arith
power_of_ten_positive (suc zeros) = omega (arith, power_of_ten_positive zeros)

zeros_lt_decimal_len : (zeros number : ℕ) → power_of_ten zeros ≤ number → number < 2 ^ 64 → zeros < length (decimal number)
zeros_lt_decimal_len zero number large fits = decimal_nonempty number fits
zeros_lt_decimal_len (suc zeros) number large fits =
    let some = power_of_ten_positive zeros in
    let prefix = zeros_lt_decimal_len zeros (number / 10) (omega arith) (omega arith) in
    omega (arith, decimal_len_succ number (omega arith) fits)

pub decimal_len_ten : (number : ℕ) → 1000000000 ≤ number → number < 10000000000 → number < 2 ^ 64 → length (decimal number) ≡ 10
decimal_len_ten number large small fits =
    let most = length-decimal-le 10 number (omega arith) (omega arith) fits in
    let minimum = zeros_lt_decimal_len 9 number large fits in
    omega arith

-- an encoded time has a sign if it is negative, its digits, a space, and five bytes of an offset
pub encode_time_len : (seconds offset : ℤ) → length (encode_time seconds offset) ≡ (if is_below_zero seconds then 1 else 0) + length
    (decimal (unsigned_abs seconds)) + 6
encode_time_len (pos size) offset =
    let joined : length (encode_time (pos size) offset) ≡ length (decimal size) + 6 = length-append (decimal size) (32 ∷ encode_offset offset) in
    let same : length (encode_time (pos size) offset) ≡ 0 + length (decimal size) + 6 = omega (arith, joined) in same
encode_time_len (negsuc size) offset =
    let joined : length (decimal (suc size) ++ 32 ∷ encode_offset offset) ≡ length (decimal (suc size)) + 6 =
    length-append (decimal (suc size)) (32 ∷ encode_offset offset) in
    let same : length (encode_time (negsuc size) offset) ≡ 1 + length (decimal (suc size)) + 6 = omega (arith, joined) in same

pub is_ascii_append : (prefix rest : List ℕ) → IsAscii prefix → IsAscii rest → IsAscii (prefix ++ rest)
is_ascii_append = IsAscii-append

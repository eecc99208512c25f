-- A byte is a decimal or octal digit if and only if it passes its test.
use Rattle.std.proofs.Common.{◌≡◌, ℕ, ◌-◌, ◌<◌, ◌≤◌, Bool, true, List, [], ◌∷◌, get_or, length, nat_le, take, arith}
use Rattle.std.proofs.lemmas.List.Elements.{All-cons, All-head, All-nil, All-tail}
use Rattle.std.specs.Char.{digit_value, is_ascii_digit}
use Rattle.std.specs.List.{AllPass}
use Rattle.std.specs.Prelude.{◌&&◌}
use Rattle.std.specs.Str.Parse.{AllDigits, digits_value}
use Rattle.std.proofs.lemmas.Str.Parse.{digit_at, digits_value-take-le}

pub all_digits_of_all_pass : (radix : ℕ) (p : ℕ → Bool) → ((byte : ℕ) → p byte ≡ true → digit_value byte < radix) → (bytes : List ℕ) → AllPass p bytes
    → AllDigits radix bytes
all_digits_of_all_pass radix p digit [] pass = tt
all_digits_of_all_pass radix p digit (byte ∷ bytes) pass =
    (digit byte (All-head (λ it. p it ≡ true) byte bytes pass), all_digits_of_all_pass radix p digit bytes (All-tail (λ it. p it ≡ true) byte bytes pass))

pub all_pass_of_all_digits : (radix : ℕ) (p : ℕ → Bool) → ((byte : ℕ) → digit_value byte < radix → p byte ≡ true) → (bytes : List ℕ) → AllDigits radix bytes
    → AllPass p bytes
all_pass_of_all_digits radix p test [] digits = All-nil (λ it. p it ≡ true)
all_pass_of_all_digits radix p test (byte ∷ bytes) digits =
    All-cons (λ it. p it ≡ true) byte bytes (test byte digits.0) (all_pass_of_all_digits radix p test bytes digits.1)

pub digit_value_lt_ten : (byte : ℕ) → is_ascii_digit byte ≡ true → digit_value byte < 10
digit_value_lt_ten byte passes = grind (arith, passes)

pub is_ascii_digit_of_value : (byte : ℕ) → digit_value byte < 10 → is_ascii_digit byte ≡ true
is_ascii_digit_of_value byte digit = grind (arith, digit)

-- an octal digit
abbrev pub is_octal : ℕ → Bool
is_octal byte = nat_le 48 byte && nat_le byte 55

pub digit_value_lt_eight : (byte : ℕ) → is_octal byte ≡ true → digit_value byte < 8
digit_value_lt_eight byte passes = grind (arith, passes)

pub is_octal_of_value : (byte : ℕ) → digit_value byte < 8 → is_octal byte ≡ true
is_octal_of_value byte digit = grind (arith, digit)

-- ---- numbers

-- the number of a prefix is at most the number of all digits
pub digits_value_take_le : (digits : List ℕ) (i : ℕ) → digits_value 10 (take i digits) ≤ digits_value 10 digits
digits_value_take_le digits i = digits_value-take-le 10 digits i (omega arith)

-- the byte at each position of decimal digits is at least `0`, and its value is its distance from `0`
pub digit_value_at : (digits : List ℕ) (i : ℕ) → AllDigits 10 digits → i < length digits → (48 ≤ get_or digits i 0)
    × (digit_value (get_or digits i 0) ≡ get_or digits i 0 - 48)
digit_value_at digits i all within =
    let range = digit_at digits i all within in
    let minimum : 48 ≤ get_or digits i 0 = omega arith in
    let most : get_or digits i 0 < 58 = omega arith in
    (minimum, grind (arith, minimum, most))

-- An encoded mode decodes to the same mode. The law `mode_round_trips`, the proofs of a kind's mode and those of
-- encoded trees use it.
use Rattle.std.proofs.Common.{◌≡◌, ◌<◌, ◌≤◌, ◌+◌, ◌*◌, ◌/◌, ◌%◌, ◌==◌, ◌&&◌, ℕ, Bool, true, false, List, [], ◌∷◌, ◌++◌, if◌then◌else◌, ◌^◌, arith, refl, subst}
use Rattle.std.proofs.Common.{◌∙◌, inl, inr, lit<, lit≤, slice_index, codes}
use Rattle.std.proofs.lemmas.Bool.{cases_lt}
use Rattle.std.proofs.lemmas.Bool.Decides.{nat_tests}
use Rattle.std.specs.Char.{digit_value}
use Rattle.std.specs.Str.Parse.{AllDigits, digits_value}
use Rattle.gixobj_tree_entries.specs.Mode.{DecodesToMode, last_digits, mode_of_digits, encode_mode, octal_digits, old_tree_type, tree_type}

digit_value_of_octal_digit : (d : ℕ) → d < 8 → digit_value (48 + d) ≡ d
digit_value_of_octal_digit d small = grind (arith, small)

mod_eight_lt_eight : (n : ℕ) → n % 8 < 8
mod_eight_lt_eight n = omega arith

octal_digit_value_lt_eight : (n : ℕ) → digit_value (48 + n % 8) < 8
octal_digit_value_lt_eight n = (let e = digit_value_of_octal_digit (n % 8) (mod_eight_lt_eight n) in omega (arith, e))

digits_value_of_five_digits : (a b c d e : ℕ) → digits_value 8 ((48 + a % 8) ∷ (48 + b % 8) ∷ (48 + c % 8) ∷ (48 + d % 8) ∷ (48 + e % 8) ∷ [])
    ≡ (((a % 8 * 8 + b % 8) * 8 + c % 8) * 8 + d % 8) * 8 + e % 8
digits_value_of_five_digits a b c d e =
    omega (
      arith,
      digit_value_of_octal_digit (a % 8) (mod_eight_lt_eight a),
      digit_value_of_octal_digit (b % 8) (mod_eight_lt_eight b),
      digit_value_of_octal_digit (c % 8) (mod_eight_lt_eight c),
      digit_value_of_octal_digit (d % 8) (mod_eight_lt_eight d),
      digit_value_of_octal_digit (e % 8) (mod_eight_lt_eight e),
    )

-- the last five octal digits of a number have its value modulo 32768
five_octal_digits_are_mod_32768 : (n : ℕ) → (((n / 4096 % 8 * 8 + n / 512 % 8) * 8 + n / 64 % 8) * 8 + n / 8 % 8) * 8 + n % 8 ≡ n % 32768
five_octal_digits_are_mod_32768 n =
    let one : n / 8 ≡ n / 64 * 8 + n / 8 % 8 = omega arith in
    let two : n / 64 ≡ n / 512 * 8 + n / 64 % 8 = omega arith in
    let three : n / 512 ≡ n / 4096 * 8 + n / 512 % 8 = omega arith in
    let four : n / 4096 ≡ n / 32768 * 8 + n / 4096 % 8 = omega arith in
    omega (arith, one, two, three, four)

digits_value_of_last_digits : (n : ℕ) → digits_value 8 (last_digits n) ≡ n % 32768
digits_value_of_last_digits n = digits_value_of_five_digits (n / 4096) (n / 512) (n / 64) (n / 8) n ∙ five_octal_digits_are_mod_32768 n

digits_value_of_six_digits : (f a b c d e : ℕ) → digits_value 8 ((48 + f % 8) ∷ (48 + a % 8) ∷ (48 + b % 8) ∷ (48 + c % 8) ∷ (48 + d % 8) ∷ (48 + e % 8) ∷ [])
    ≡ ((((f % 8 * 8 + a % 8) * 8 + b % 8) * 8 + c % 8) * 8 + d % 8) * 8 + e % 8
digits_value_of_six_digits f a b c d e =
    omega (
      arith,
      digit_value_of_octal_digit (f % 8) (mod_eight_lt_eight f),
      digit_value_of_octal_digit (a % 8) (mod_eight_lt_eight a),
      digit_value_of_octal_digit (b % 8) (mod_eight_lt_eight b),
      digit_value_of_octal_digit (c % 8) (mod_eight_lt_eight c),
      digit_value_of_octal_digit (d % 8) (mod_eight_lt_eight d),
      digit_value_of_octal_digit (e % 8) (mod_eight_lt_eight e),
    )

digits_value_of_octal_digits : (n : ℕ) → n < 65536 → digits_value 8 (octal_digits n) ≡ n
digits_value_of_octal_digits n small =
    let first : n / 32768 % 8 ≡ n / 32768 = omega arith in
    let entire : n ≡ n / 32768 * 32768 + n % 32768 = omega arith in
    digits_value_of_six_digits (n / 32768) (n / 4096) (n / 512) (n / 64) (n / 8) n ∙ omega (arith, first, entire, five_octal_digits_are_mod_32768 n)

and_false : (b : Bool) → (b && false) ≡ false
and_false true = refl
and_false false = refl

-- digits decode to their number unless it is a tree's mode with a first 0
mode_of_digits_eq_value : (digits : List ℕ) (n : ℕ) → digits_value 8 digits ≡ n → n < 65536 → ((n == tree_type) && (slice_index digits 0 == 48)) ≡ false
    → n ≡ mode_of_digits digits
mode_of_digits_eq_value digits n value small other =
    let number : digits_value 8 digits % 2 ^ 16 ≡ n = omega (arith, value) in
    rw (number, other) refl

last_digits_are_octal : (n : ℕ) → AllDigits 8 (last_digits n)
last_digits_are_octal n = (
  octal_digit_value_lt_eight (n / 4096),
  (
    octal_digit_value_lt_eight (n / 512),
    (octal_digit_value_lt_eight (n / 64), (octal_digit_value_lt_eight (n / 8), (octal_digit_value_lt_eight n, tt))),
  ),
)

octal_digits_are_octal : (n : ℕ) → AllDigits 8 (octal_digits n)
octal_digits_are_octal n = (octal_digit_value_lt_eight (n / 32768), last_digits_are_octal n)

-- a mode whose second digit differs from 4 decodes from its six digits
pub octal_digits_decode : (n : ℕ) → n < 65536 → (n / 4096 % 8 == 4) ≡ false → DecodesToMode (octal_digits n) n
octal_digits_decode n small other =
    let no_tree : (n == tree_type) ≡ false = grind (arith, nat_tests, other) in
    record {
      octal = octal_digits_are_octal n;
      short = omega arith;
      value =
          mode_of_digits_eq_value (octal_digits n) n (digits_value_of_octal_digits n small) small (rw no_tree refl);
    }

-- a mode whose second digit is 4 and whose first digit is 0 decodes from its last five digits
pub last_digits_decode : (n : ℕ) → n < 32768 → (n / 4096 % 8 == 4) ≡ true → DecodesToMode (last_digits n) n
last_digits_decode n small four =
    let value : digits_value 8 (last_digits n) ≡ n = digits_value_of_last_digits n ∙ omega arith in
    let first : (48 + n / 4096 % 8 == 48) ≡ false = grind (arith, nat_tests, four) in
    record {
      octal = last_digits_are_octal n;
      short = omega arith;
      value = mode_of_digits_eq_value (last_digits n) n value (omega arith)
          (rw first (and_false (n == tree_type)));
    }

zero_mode_decodes : DecodesToMode (codes "0") 0
zero_mode_decodes = record { octal = (lit< tt, tt); short = lit≤ tt; value = refl }

old_tree_mode_decodes : DecodesToMode (codes "0" ++ last_digits old_tree_type) old_tree_type
old_tree_mode_decodes = record { octal = (lit< tt, last_digits_are_octal old_tree_type); short = lit≤ tt; value = refl }

mode_decodes_of_flags : (n : ℕ) (zero four one : Bool) → (n == 0) ≡ zero → (n / 4096 % 8 == 4) ≡ four → (n / 32768 % 8 == 1) ≡ one → n < 65536
    → ((old_tree_type < n) × (n < old_tree_type + 4096) → ⊥)
    → DecodesToMode (if zero then codes "0" else if four && one then codes "0" ++ last_digits n else if four then last_digits n else octal_digits n) n
mode_decodes_of_flags n true four one is_zero is_four is_one small kept =
    let same : 0 ≡ n = grind (arith, nat_tests, is_zero) in
    let P : ℕ → Type 0 = λ it. DecodesToMode (codes "0") it in subst P same zero_mode_decodes
mode_decodes_of_flags n false false one is_zero is_four is_one small kept = octal_digits_decode n small is_four
mode_decodes_of_flags n false true false is_zero is_four is_one small kept =
    let low : n < 32768 = grind (arith, nat_tests, is_one, small) in last_digits_decode n low is_four
mode_decodes_of_flags n false true true is_zero is_four is_one small kept =
    let four : n / 4096 % 8 ≡ 4 = grind (arith, nat_tests, is_four) in
    let one : n / 32768 % 8 ≡ 1 = grind (arith, nat_tests, is_one) in
    let above : old_tree_type ≤ n = omega (arith, four, one, small) in
    let below : n < old_tree_type + 4096 = omega (arith, four, one, small) in
    let same : old_tree_type ≡ n =
    elim (cases_lt old_tree_type n) [ inl more ↦ absurd (kept (more, below)) | inr minimum ↦ omega (arith, above, minimum) ] in
    let P : ℕ → Type 0 = λ it. DecodesToMode (codes "0" ++ last_digits it) it in subst P same old_tree_mode_decodes

-- an encoded mode of 16 bits decodes to the same mode, except for 0o140001 to 0o147777, whose first digit is left out
pub mode_round_trips : (n : ℕ) → n < 2 ^ 16 → ((old_tree_type < n) × (n < old_tree_type + 4096) → ⊥) → DecodesToMode (encode_mode n) n
mode_round_trips n small kept = mode_decodes_of_flags n (n == 0) (n / 4096 % 8 == 4) (n / 32768 % 8 == 1) refl refl refl small kept

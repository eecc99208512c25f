-- The number of octal digits, modulo 65536 at each step.
use Rattle.std.proofs.Common.{◌≡◌, ◌<◌, ◌+◌, ◌-◌, ◌*◌, ◌%◌, ℕ, List, [], ◌∷◌, length, drop, get_or, arith, subst, sym, ap, ◌∙◌}
use Rattle.std.proofs.lemmas.List.{drop_more}
use Rattle.std.specs.Char.{digit_value}
use Rattle.std.specs.Str.Parse.{AllDigits, digits_value_after}

octal_step_congruent_mod : (a b digit : ℕ) → a % 65536 ≡ b % 65536 → (a * 8 + digit) % 65536 ≡ (b * 8 + digit) % 65536
octal_step_congruent_mod a b digit same = omega arith

-- the number after more digits depends on the number before them modulo 65536 alone
pub digits_value_after_mod : (a b : ℕ) (digits : List ℕ) → a % 65536 ≡ b % 65536 → digits_value_after 8 a digits % 65536 ≡ digits_value_after 8 b digits % 65536
digits_value_after_mod a b [] same = same
digits_value_after_mod a b (digit ∷ digits) same = digits_value_after_mod (a * 8 + digit_value digit) (b * 8 + digit_value digit) digits
    (octal_step_congruent_mod a b (digit_value digit) same)

octal_digit_value_eq_sub_48 : (digit : ℕ) → digit_value digit < 8 → digit_value digit ≡ digit - 48
octal_digit_value_eq_sub_48 digit small = grind (arith, small)

-- the invariant after one more digit
pub record OneMore (digits : List ℕ) (at number value : ℕ) : Type 0 where
  pub octal : AllDigits 8 (drop (at + 1) digits)
  pub same : digits_value_after 8 ((number * 8 + value) % 65536) (drop (at + 1) digits) % 65536 ≡ digits_value_after 8 number (drop at digits) % 65536

digits_value_after_cons_mod : (number value digit : ℕ) (rest : List ℕ) → value ≡ digit - 48 → AllDigits 8 (digit ∷ rest)
    → digits_value_after 8 ((number * 8 + value) % 65536) rest % 65536 ≡ digits_value_after 8 number (digit ∷ rest) % 65536
digits_value_after_cons_mod number value digit rest is octal =
    let spelled : digit_value digit ≡ value = octal_digit_value_eq_sub_48 digit octal.0 ∙ sym is in
    let same : ((number * 8 + value) % 65536) % 65536 ≡ (number * 8 + digit_value digit) % 65536 = omega arith in
    digits_value_after_mod ((number * 8 + value) % 65536) (number * 8 + digit_value digit) rest same

pub one_more_digit : (digits : List ℕ) (at number value : ℕ) → at < length digits → value ≡ get_or digits at 0 - 48 → AllDigits 8 (drop at digits)
    → OneMore digits at number value
one_more_digit digits at number value within is octal =
    let split : drop at digits ≡ get_or digits at 0 ∷ drop (at + 1) digits = drop_more digits at 0 within in
    let entire : AllDigits 8 (get_or digits at 0 ∷ drop (at + 1) digits) = (let P : List ℕ → Type 0 = AllDigits 8 in subst P split octal) in
    record {
      octal = entire.1;
      same = digits_value_after_cons_mod number value (get_or digits at 0) (drop (at + 1) digits) is entire
          ∙ ap (λ it. digits_value_after 8 number it % 65536) (sym split);
    }

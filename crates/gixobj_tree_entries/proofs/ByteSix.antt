-- An encoded mode follows the rule of byte 6.
use Rattle.std.proofs.Common.{◌≡◌, ◌<◌, ◌++◌, ◌∷◌, ◌==◌, ◌&&◌, ℕ, Bool, true, false, List, arith, codes, if◌then◌else◌, refl}
use Rattle.std.proofs.lemmas.Bool.Decides.{nat_tests}
use Rattle.gixobj_tree_entries.specs.Mode.{ObeysByteSix, first_digit, last_digits, encode_mode, octal_digits, second_digit}

-- byte 6 follows an encoded mode of six digits, and byte 5 one of five digits
has_six_digits_of_flags : (mode : ℕ) (rest : List ℕ) (zero four one : Bool) → zero ≡ false
    → ObeysByteSix ((if zero then codes "0" else if four && one then codes "0" ++ last_digits mode else if four then last_digits mode else octal_digits mode)
    ++ 32 ∷ rest)
    (if zero then codes "0" else if four && one then codes "0" ++ last_digits mode else if four then last_digits mode else octal_digits mode)
has_six_digits_of_flags mode rest true four one some = cc some
has_six_digits_of_flags mode rest false true true some = λ is other. refl
has_six_digits_of_flags mode rest false true false some = λ is other. absurd (other refl)
has_six_digits_of_flags mode rest false false one some = λ is other. refl

pub encode_mode_has_six_digits : (mode : ℕ) (rest : List ℕ) → 0 < mode → ObeysByteSix (encode_mode mode ++ 32 ∷ rest) (encode_mode mode)
encode_mode_has_six_digits mode rest some =
    let filled : (mode == 0) ≡ false = grind (arith, nat_tests, some) in
    has_six_digits_of_flags mode rest (mode == 0) (second_digit mode == 4) (first_digit mode == 1) filled

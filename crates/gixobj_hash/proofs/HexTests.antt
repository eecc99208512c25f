-- A test of all bytes agrees with its predicate, and two hex digits decode to a byte.
use Rattle.std.proofs.Common.{◌≡◌, ◌+◌, ◌*◌, ℕ, List, Ok, Some, ap, arith, refl, true}
use Rattle.std.proofs.lemmas.List.Sums.{AllPass-from_list_all, list_all-from_AllPass}
use Rattle.std.specs.List.{AllPass, list_all}
use Rattle.hex.specs.Hex.{digit_or_error, hex_digit_value, is_hex_digit, pair_value, value_at}

pub all_pass_of_list_all : (content : List ℕ) → list_all is_hex_digit content ≡ true → AllPass is_hex_digit content
all_pass_of_list_all content all = AllPass-from_list_all is_hex_digit content all

pub list_all_of_all_pass : (content : List ℕ) → AllPass is_hex_digit content → list_all is_hex_digit content ≡ true
list_all_of_all_pass content all = list_all-from_AllPass is_hex_digit content all

-- two hex digits decode to the byte 16 times the first value plus the second
pub pair_value_of_digits : (high low position first second : ℕ) → hex_digit_value high ≡ Some first → hex_digit_value low ≡ Some second
    → pair_value high low position ≡ Ok (16 * first + second)
pair_value_of_digits high low position first second one two =
    let read : value_at high position ≡ Ok first = ap (digit_or_error high position) one in
    let also : value_at low (position + 1) ≡ Ok second = ap (digit_or_error low (position + 1)) two in
    let turned : 16 * first + second ≡ first * 16 + second = omega arith in
    rw (read, also, turned) refl

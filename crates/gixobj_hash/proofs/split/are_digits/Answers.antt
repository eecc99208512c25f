use Rattle.std.proofs.Common.{◌≡◌, true, rules}
use Rattle.std.specs.Char.{is_ascii_digit}
use Rattle.std.specs.List.{AllPass}
use Rattle.gixobj_hash.proofs.Digits.{all_digits_of_all_pass, digit_value_lt_ten, all_pass_of_all_digits, is_ascii_digit_of_value}
use Rattle.gixobj_hash.proofs.split.are_digits.Goals as goal

pub returns : goal.returns
returns c =
    let content = c.args.content.now in
    let found : c.all.result ≡ true → AllPass is_ascii_digit content = search rules in
    let only : AllPass is_ascii_digit content → c.all.result ≡ true = search rules in (
      λ passes. all_digits_of_all_pass 10 is_ascii_digit digit_value_lt_ten content (found passes),
      λ digits. only (all_pass_of_all_digits 10 is_ascii_digit is_ascii_digit_of_value content digits),
    )

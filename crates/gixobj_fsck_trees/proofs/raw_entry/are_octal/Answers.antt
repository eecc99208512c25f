use Rattle.std.proofs.Common.{◌≡◌, true, rules}
use Rattle.std.specs.List.{AllPass}
use Rattle.gixobj_hash.proofs.Digits.{all_digits_of_all_pass, is_octal, digit_value_lt_eight, all_pass_of_all_digits, is_octal_of_value}
use Rattle.gixobj_fsck_trees.proofs.raw_entry.are_octal.Goals as goal

pub returns : goal.returns
returns c =
    let content = c.args.digits.now in
    let found : c.all.result ≡ true → AllPass is_octal content = search rules in
    let only : AllPass is_octal content → c.all.result ≡ true = search rules in (
      λ passes. all_digits_of_all_pass 8 is_octal digit_value_lt_eight content (found passes),
      λ digits. only (all_pass_of_all_digits 8 is_octal is_octal_of_value content digits),
    )

-- The parts that are split from the left are those of the line's number.
use Rattle.std.proofs.Common.{◌<◌, arith, length, rules}
use Rattle.std.proofs.lemmas.Bool.Decides.{nat_tests}
use Rattle.gixobj_walks_commits.proofs.Numbers.{SplitsNumber, no_seconds_without_digit, no_seconds_without_greater_than, numeral_of_digits, seconds_of_digits}
use Rattle.gixobj_walks_commits.proofs.seconds.seconds_of.Goals as goal

pub returns-in_default : goal.returns-in_default
returns-in_default c = no_seconds_without_greater_than c.args.line.now c.in_default.ensures.none

pub returns-then-is_empty : goal.returns-then-is_empty
returns-then-is_empty c =
    let splits : SplitsNumber c.args.line.now c.split_white_space.result.1.now c.split_digits.result.0.now = record {
      before = c.in-Some.field-0-0.now;
      after = c.in-Some.after.now;
      gap = c.split_white_space.result.0.now;
      rest = c.split_digits.result.1.now;
      split = c.in-Some.ensures.found;
      joined = c.split_white_space.ensures.joined;
      blank = c.split_white_space.ensures.blank;
      filled = c.split_white_space.ensures.ends;
      unsigned = search rules;
      digits_pass = c.split_digits.ensures.digits;
      ends = c.split_digits.ensures.ends;
    } in
    no_seconds_without_digit c.args.line.now c.split_white_space.result.1.now c.split_digits.result.0.now splits (grind (arith, nat_tests))

pub number_in_64_bits-requires : goal.number_in_64_bits-requires
number_in_64_bits-requires c = numeral_of_digits c.split_digits.result.0.now c.split_digits.ensures.digits (grind (arith, nat_tests))

pub returns : goal.returns
returns c =
    let splits : SplitsNumber c.args.line.now c.split_white_space.result.1.now c.split_digits.result.0.now = record {
      before = c.in-Some.field-0-0.now;
      after = c.in-Some.after.now;
      gap = c.split_white_space.result.0.now;
      rest = c.split_digits.result.1.now;
      split = c.in-Some.ensures.found;
      joined = c.split_white_space.ensures.joined;
      blank = c.split_white_space.ensures.blank;
      filled = c.split_white_space.ensures.ends;
      unsigned = search rules;
      digits_pass = c.split_digits.ensures.digits;
      ends = c.split_digits.ensures.ends;
    } in
    let some : 0 < length c.split_digits.result.0.now = grind (arith, nat_tests) in
    rw (c.number_in_64_bits.ensures, c.split_sign-is_minus.ensures.sign)
    (seconds_of_digits c.args.line.now c.split_white_space.result.1.now c.split_digits.result.0.now splits some)

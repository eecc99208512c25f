use Rattle.std.proofs.Common.{ap, arith, sym, ◌∙◌}
use Rattle.std.specs.Prelude.{decimal}
use Rattle.gixobj_records.proofs.Fields.{digits_value_of_decimal, numeral_of_decimal}
use Rattle.gixobj_records.proofs.header.decode_size.Goals as goal

pub returns-then-is_empty-clause-none : goal.returns-then-is_empty-clause-none
returns-then-is_empty-clause-none c = λ size fits same.
    grind (arith, (numeral_of_decimal c.args.digits.now size fits same).0)

pub returns-then-not-are_digits-clause-none : goal.returns-then-not-are_digits-clause-none
returns-then-not-are_digits-clause-none c = λ size fits same.
    grind (arith, c.are_digits.ensures.1 (numeral_of_decimal c.args.digits.now size fits same).1)

pub returns-in_default-clause-none : goal.returns-in_default-clause-none
returns-in_default-clause-none c = λ size fits same.
    grind (arith, c.in_default.ensures, digits_value_of_decimal c.args.digits.now size fits same)

pub returns-else-are_equal-clause-none : goal.returns-else-are_equal-clause-none
returns-else-are_equal-clause-none c = λ size fits same.
    let value = digits_value_of_decimal c.args.digits.now size fits same in
    grind (arith, c.are_equal.ensures.1 (c.as_bytes.ensures.value ∙ c.format.ensures.text ∙ ap decimal (c.in-Some.ensures.1 ∙ value) ∙ sym same))

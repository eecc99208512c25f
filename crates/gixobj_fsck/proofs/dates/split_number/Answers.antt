use Rattle.std.proofs.Common.{length, arith, sym, ◌∙◌}
use Rattle.std.proofs.lemmas.Bool.{eqb-false, eqb-true}
use Rattle.gixobj_fsck.proofs.Numbers.{no_number_of_empty, numeral_of_span}
use Rattle.gixobj_fsck.proofs.dates.split_number.Goals as goal

pub returns-then-is_empty : goal.returns-then-is_empty
returns-then-is_empty c =
    no_number_of_empty c.args.date.now c.split_span.result.0.now c.split_span.result.1.now c.split_sign-negative.result.1.now
    c.split_span-2.result.0.now c.split_span-2.result.1.now c.split_span.ensures c.split_sign-negative.ensures.unsigned c.split_span-2.ensures
    (eqb-true (length c.split_span-2.result.0.now) 0 (sym c.is_empty.ensures ∙ c.if-is_empty.true))

pub number_from_digits-requires : goal.number_from_digits-requires
number_from_digits-requires c =
    let some = eqb-false (length c.split_span-2.result.0.now) 0 (sym c.is_empty.ensures ∙ c.if-is_empty.false) in
    numeral_of_span c.split_sign-negative.result.1.now c.split_span-2.result.0.now c.split_span-2.result.1.now c.split_span-2.ensures
    (omega (arith, some))

-- If the number of a prefix exceeds 64 bits, the number of all digits does.
use Rattle.std.proofs.Common.{◌+◌, ◌∙◌, ap, arith}
use Rattle.std.specs.Str.Parse.{digits_value}
use Rattle.std.proofs.lemmas.Int.Digits.{digits_value_more}
use Rattle.std.proofs.lemmas.List.{take_all}
use Rattle.gixobj_hash.proofs.Digits.{digit_value_at, digits_value_take_le}
use Rattle.gixobj_hash.proofs.split.number_from_digits.Goals as goal

pub returns-in_err-checked_mul : goal.returns-in_err-checked_mul
returns-in_err-checked_mul c =
    let digits = c.args.digits.now in
    let position = c.loop-digit.digit-index in
    let more = digits_value_more 10 digits position c.loop-digit-test.true in
    let prefix = digits_value_take_le digits (position + 1) in
    let spelled = c.loop-digit.invariant.spelled in
    rw c.from_residual.ensures (λ short. c.in_err-checked_mul.ensures (omega (arith, more, prefix, spelled, short)))

pub returns-in_err-number : goal.returns-in_err-number
returns-in_err-number c =
    let digits = c.args.digits.now in
    let position = c.loop-digit.digit-index in
    let more = digits_value_more 10 digits position c.loop-digit-test.true in
    let prefix = digits_value_take_le digits (position + 1) in
    let digit = digit_value_at digits position c.requires.1 c.loop-digit-test.true in
    let spelled = c.loop-digit.invariant.spelled in
    rw c.from_residual-in_err-number.ensures
    (λ short. c.in_err-number.ensures (omega (arith, more, prefix, digit, spelled, short, c.from.ensures, c.in_ok-checked_mul.ensures)))

pub returns : goal.returns
returns c =
    let digits = c.args.digits.now in
    let all = c.loop-digit.invariant.spelled ∙ ap (digits_value 10) (take_all c.loop-digit.digit-index digits c.loop-digit-test.false) in
    (omega (arith, all, c.loop-digit.invariant.fits), all)

use Rattle.std.proofs.Common.{◌≡◌, ◌-◌, ◌∙◌, get_or, arith, rules}
use Rattle.gixobj_fsck_trees.proofs.OctalNumbers.{one_more_digit}
use Rattle.gixobj_fsck_trees.proofs.raw_entry.octal_number.Goals as goal

pub loop-digit-preserved : goal.loop-digit-preserved
loop-digit-preserved c =
    let kept = c.loop-digit.invariant in
    let value : c.from.result ≡ get_or c.args.digits.now c.loop-digit.digit-index 0 - 48 = search rules in
    let more = one_more_digit c.args.digits.now c.loop-digit.digit-index c.loop-digit.number c.from.result c.loop-digit-test.true value kept.octal in
    record {
      small = omega arith;
      octal = more.octal;
      same = more.same ∙ kept.same;
    }

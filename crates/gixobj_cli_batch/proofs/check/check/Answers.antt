use Rattle.std.proofs.Common.{arith}
use Rattle.gixobj_cli_batch.proofs.Records.{has_checks_nil, has_checks_take, prints_check_of_checks}
use Rattle.gixobj_cli_batch.proofs.check.check.Goals as goal

pub loop-it-init : goal.loop-it-init
loop-it-init c = record {
  has = has_checks_nil c.args.strict c.new-lines.result.items c.new-lines.ensures.items;
  faulty = omega arith;
  missing = omega arith;
}

pub loop-it-preserved : goal.loop-it-preserved
loop-it-preserved c = record {
  has = has_checks_take c.args.strict c.args.records.now c.loop-it.it-index _ c.loop-it.lines.items c.push_checked.new.lines.items c.loop-it.faulty
      c.loop-it.missing c.count_faulty-faulty.result c.count_missing-missing.result c.in_ok-checked.checked c.loop-it-test.true
      c.loop-it.invariant.has c.in_ok-checked.ensures c.in_ok-push_checked.ensures
      c.count_faulty-faulty.ensures.counted c.count_missing-missing.ensures.counted;
  faulty = omega (arith, c.loop-it.invariant.faulty, c.count_faulty-faulty.ensures.bounded);
  missing = omega (arith, c.loop-it.invariant.missing, c.count_missing-missing.ensures.bounded);
}

pub returns-clause-printed : goal.returns-clause-printed
returns-clause-printed c =
    prints_check_of_checks c.args.strict c.args.records.now c.loop-it.it-index c.loop-it.faulty c.loop-it.missing c.loop-it.lines.items
    c.push_counts.new.lines.items c.fault_of-fault.result c.loop-it-test.false c.loop-it.invariant.has c.in_ok-push_counts.ensures c.fault_of-fault.ensures

-- Each step writes one finding.
use Rattle.gixobj_c_fsck.proofs.Written.{written_next}
use Rattle.gixobj_c_fsck.proofs.findings.write_findings.Goals as goal

pub loop-i-preserved : goal.loop-i-preserved
loop-i-preserved c = written_next c.args.strict c.args.findings.now c.loop-i.i c.loop-i.out c.args.out.now _ c.parts_of.result c.loop-i-test.true
    c.if-out-findings.false c.loop-i.invariant c.parts_of.ensures

use Rattle.gixobj_cli_batch.proofs.Appended.{appended_take}
use Rattle.gixobj_cli_batch.specs.FindingLines.{finding_line}
use Rattle.gixobj_cli_batch.proofs.findings.push_findings.Goals as goal

pub loop-it-preserved : goal.loop-it-preserved
loop-it-preserved c =
    appended_take (finding_line c.args.strict c.args.id c.args.kind) c.args.findings.now c.loop-it.it-index _ c.args.lines.now.items c.loop-it.lines.items
    c.push_finding.new.lines.items c.loop-it-test.true c.loop-it.invariant c.in_ok-push_finding.ensures

use Rattle.gixobj_text.proofs.Scans.{scanned_of_walked}
use Rattle.gixobj_text.proofs.commit.message.body.scan.scanned.Goals as goal

pub returns : goal.returns
returns c = scanned_of_walked c.args.body.now c.lines.rest.now c.lines.scan c.lines.invariant c.in_default.ensures

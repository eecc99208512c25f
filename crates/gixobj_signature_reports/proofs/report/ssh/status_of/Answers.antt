use Rattle.std.proofs.Common.{rules}
use Rattle.gixobj_signature_reports.proofs.report.ssh.status_of.Goals as goal

pub returns-then-starts_with : goal.returns-then-starts_with
returns-then-starts_with c = search rules

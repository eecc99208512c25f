use Rattle.std.proofs.Common.{rules}
use Rattle.gixobj_signature_reports.proofs.report.gpg.with_status_if_any.Goals as goal

pub returns-in_default-Some : goal.returns-in_default-Some
returns-in_default-Some c = search rules

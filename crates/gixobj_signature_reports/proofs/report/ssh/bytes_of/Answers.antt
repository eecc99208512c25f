use Rattle.std.proofs.Common.{rules}
use Rattle.gixobj_signature_reports.proofs.report.ssh.bytes_of.Goals as goal

pub returns-then-is_empty-clause-allocates : goal.returns-then-is_empty-clause-allocates
returns-then-is_empty-clause-allocates c = search rules

use Rattle.std.proofs.Common.{rules}
use Rattle.gixobj_signature_reports.proofs.report.gpg.reported_by.Goals as goal

pub returns-in-Several-clause-allocates : goal.returns-in-Several-clause-allocates
returns-in-Several-clause-allocates c = search rules

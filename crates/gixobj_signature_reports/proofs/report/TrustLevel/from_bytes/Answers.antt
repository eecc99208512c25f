use Rattle.std.proofs.Common.{rules}
use Rattle.gixobj_signature_reports.proofs.report.TrustLevel.from_bytes.Goals as goal

pub returns : goal.returns
returns c = search rules

use Rattle.std.proofs.Common.{rules}
use Rattle.gixobj_signature_reports.proofs.report.evaluate.Goals as goal

pub returns-then-is_good : goal.returns-then-is_good
returns-then-is_good c = search rules

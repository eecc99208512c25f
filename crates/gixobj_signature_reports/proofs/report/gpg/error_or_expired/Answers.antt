-- The three keywords are compared from the last to the first.
use Rattle.std.proofs.Common.{List, ℕ, Option, ap, codes, ◌∙◌}
use Rattle.std.specs.Option.{option_map}
use Rattle.gixobj_signature_reports.proofs.FirstBytes.{error_status_of_keywords}
use Rattle.gixobj_signature_reports.specs.Fields.{after_prefix, either}
use Rattle.gixobj_signature_reports.specs.GpgReports.{with_status}
use Rattle.gixobj_signature_reports.specs.StatusLines.{status_view}
use Rattle.gixobj_signature_reports.specs.declared.report.Status.{Status}
use Rattle.gixobj_signature_reports.specs.declared.report.Status.TheVariants as status
use Rattle.gixobj_signature_reports.proofs.report.gpg.error_or_expired.Goals as goal

pub returns : goal.returns
returns c =
    let line = c.args.line.now in
    error_status_of_keywords line (option_map status_view c.status_or.result)
    (c.status_or.ensures
    ∙ ap (λ (it : Option (Status × List ℕ)). either (option_map (with_status status.Error) (after_prefix (codes "ERRSIG ") line)) it)
    (c.status_or-expired.ensures
    ∙ ap (λ (it : Option (Status × List ℕ)). either (option_map (with_status status.Expired) (after_prefix (codes "EXPSIG ") line)) it)
    c.status_or-expired_key.ensures))

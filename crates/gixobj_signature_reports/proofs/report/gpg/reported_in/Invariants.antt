use Rattle.std.proofs.Common.{◌≡◌, codes, length, map}
use Rattle.std.specs.Option.{option_map}
use Rattle.bstr.specs.Text.{lines_of, without_terminator}
use Rattle.gixobj_signature_reports.specs.Fields.{either, last_of}
use Rattle.gixobj_signature_reports.specs.GpgReports.{verdict}
use Rattle.gixobj_signature_reports.specs.StatusLines.{reported_after, statuses_in, verdict_of}
use Rattle.gixobj_signature_reports.proofs.report.gpg.reported_in.Given as goal

-- the values so far, with those of the remaining lines, are the values of all lines
abbrev pub invariant-lines : goal.invariant-lines
invariant-lines l =
    (verdict_of l.reported.statuses (statuses_in l.lines)
    ≡ verdict (statuses_in (map without_terminator (lines_of l.fn.raw))))
    × (either (last_of (reported_after (codes "TRUST_") l.lines)) (option_map (λ it. it.now) l.reported.trust)
    ≡ last_of (reported_after (codes "TRUST_") (map without_terminator (lines_of l.fn.raw))))
    × (either (last_of (reported_after (codes "VALIDSIG ") l.lines)) (option_map (λ it. it.now) l.reported.valid)
    ≡ last_of (reported_after (codes "VALIDSIG ") (map without_terminator (lines_of l.fn.raw))))

abbrev pub decreases-lines : goal.decreases-lines
decreases-lines l = length l.lines

use Rattle.std.proofs.Common.{◌≡◌, length}
use Rattle.gixobj_signature_reports.specs.StatusLines.{after_spaces}
use Rattle.gixobj_signature_reports.proofs.report.gpg.after_nth.Given as goal

-- skipping the remaining spaces from here is skipping all of them from the start
abbrev pub invariant-bytes : goal.invariant-bytes
invariant-bytes l = after_spaces l.remaining l.rest ≡ after_spaces l.number l.fn.line

abbrev pub decreases-bytes : goal.decreases-bytes
decreases-bytes l = length l.rest

use Rattle.std.proofs.Common.{◌≡◌, ◌++◌, None, codes, drop, length}
use Rattle.gixobj_signature_reports.specs.SshReports.{after_last}
use Rattle.gixobj_signature_reports.proofs.report.ssh.after_last_key.Given as goal

-- no occurrence begins after the remaining bytes
abbrev pub invariant-positions : goal.invariant-positions
invariant-positions l =
    (l.fn.line ≡ l.remaining ++ drop (length l.remaining) l.fn.line)
    × (after_last (codes " key ") (drop (length l.remaining) l.fn.line) ≡ None)

abbrev pub decreases-positions : goal.decreases-positions
decreases-positions l = length l.remaining

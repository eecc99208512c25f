use Rattle.std.proofs.Common.{length}
use Rattle.gixobj_text.specs.Scanned.{IsWalked}
use Rattle.gixobj_text.proofs.commit.message.body.scan.scanned.Given as goal

-- the scan has reached the rest
abbrev pub invariant-lines : goal.invariant-lines
invariant-lines l = IsWalked l.fn.body l.rest l.scan

abbrev pub decreases-lines : goal.decreases-lines
decreases-lines l = length l.rest

-- The trailers are those that the calls up to the cursor found, and fewer bytes follow after each.
use Rattle.std.proofs.Common.{◌-◌, length}
use Rattle.gixobj_c.proofs.TrailerRuns.{HasFound}
use Rattle.gixobj_c.proofs.laws.trailers.message_trailers.Given as goal

abbrev pub invariant-calls : goal.invariant-calls
invariant-calls l = HasFound l.fn.message l.cursor l.found.items

abbrev pub decreases-calls : goal.decreases-calls
decreases-calls l = length l.fn.message - l.cursor.offset

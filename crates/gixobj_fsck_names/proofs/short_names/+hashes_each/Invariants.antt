use Rattle.std.proofs.Common.{length}
use Rattle.gixobj_fsck_names.proofs.short_names.+hashes_each.Given as goal

abbrev pub decreases-hashes_each : goal.decreases-hashes_each
decreases-hashes_each l = length l.bytes.now

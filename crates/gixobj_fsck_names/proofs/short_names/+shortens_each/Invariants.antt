use Rattle.std.proofs.Common.{length}
use Rattle.gixobj_fsck_names.proofs.short_names.+shortens_each.Given as goal

abbrev pub decreases-shortens_each : goal.decreases-shortens_each
decreases-shortens_each l = length l.name.now

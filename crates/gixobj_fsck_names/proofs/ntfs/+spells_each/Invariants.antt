use Rattle.std.proofs.Common.{length}
use Rattle.gixobj_fsck_names.proofs.ntfs.+spells_each.Given as goal

abbrev pub decreases-spells_each : goal.decreases-spells_each
decreases-spells_each l = length l.name.now

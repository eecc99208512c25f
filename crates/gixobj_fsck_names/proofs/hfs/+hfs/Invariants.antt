use Rattle.std.proofs.Common.{length, ◌+◌, ◌*◌}
use Rattle.gixobj_fsck_names.proofs.hfs.+hfs.Given as goal

abbrev pub decreases-is_on_hfs : goal.decreases-is_on_hfs
decreases-is_on_hfs l = 2 * length l.letters.now + 1

abbrev pub decreases-reads_next : goal.decreases-reads_next
decreases-reads_next l = 2 * length l.letters.now

use Rattle.std.proofs.Common.{length}
use Rattle.gixobj_fsck_names.proofs.short_names.+are_digits.Given as goal

abbrev pub decreases-are_digits : goal.decreases-are_digits
decreases-are_digits l = length l.bytes.now

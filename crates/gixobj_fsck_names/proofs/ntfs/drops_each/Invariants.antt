use Rattle.std.proofs.Common.{◌↔◌, length}
use Rattle.gixobj_fsck_names.specs.Walks.{DropsEach}
use Rattle.gixobj_fsck_names.proofs.ntfs.drops_each.Given as goal

abbrev pub invariant-loop-rest : goal.invariant-loop-rest
invariant-loop-rest l = DropsEach l.slashes l.rest ↔ DropsEach l.slashes l.bytes

abbrev pub decreases-loop-rest : goal.decreases-loop-rest
decreases-loop-rest l = length l.rest

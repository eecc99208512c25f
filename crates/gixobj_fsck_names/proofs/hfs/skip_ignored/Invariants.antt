use Rattle.std.proofs.Common.{◌↔◌, ℕ, List, length}
use Rattle.gixobj_fsck_names.specs.Hfs.{IsOnHfs}
use Rattle.gixobj_fsck_names.proofs.hfs.skip_ignored.Given as goal

abbrev pub invariant-loop-after : goal.invariant-loop-after
invariant-loop-after l = (letters : List ℕ) → IsOnHfs l.rest letters ↔ IsOnHfs l.name letters

abbrev pub decreases-loop-after : goal.decreases-loop-after
decreases-loop-after l = length l.rest

use Rattle.std.proofs.Common.{ℕ, List}
use Rattle.gixobj_fsck_names.proofs.HfsNames.{ignored_iff_on_hfs}
use Rattle.gixobj_fsck_names.specs.Hfs.{IsOnHfs}
use Rattle.gixobj_fsck_names.proofs.hfs.skip_ignored.Goals as goal

pub loop-after-preserved : goal.loop-after-preserved
loop-after-preserved c = λ (letters : List ℕ).
    let same = ignored_iff_on_hfs c.loop-after.rest.now c.in-Some.after.now letters c.in-Some.ensures in
    let before = c.loop-after.invariant letters in
    (λ (it : IsOnHfs c.in-Some.after.now letters). before.0 (same.0 it), λ (it : IsOnHfs c.args.name.now letters). same.1 (before.1 it))

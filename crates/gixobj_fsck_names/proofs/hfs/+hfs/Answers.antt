use Rattle.gixobj_fsck_names.proofs.HfsNames.{next_iff_on_hfs}
use Rattle.gixobj_fsck_names.proofs.hfs.+hfs.Goals as goal

pub is_on_hfs-returns : goal.is_on_hfs-returns
is_on_hfs-returns t c =
    let skipped = c.skip_ignored.ensures.same c.args.letters.now in
    let same = next_iff_on_hfs c.skip_ignored.result.now c.args.letters.now c.skip_ignored.ensures.skipped in
    (λ answer. skipped.0 (same.0 (c.reads_next.ensures.0 answer)), λ it. c.reads_next.ensures.1 (same.1 (skipped.1 it)))

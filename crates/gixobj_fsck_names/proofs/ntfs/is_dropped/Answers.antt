use Rattle.gixobj_fsck_names.proofs.NamesByByte.{dropped_iff_each}
use Rattle.gixobj_fsck_names.proofs.ntfs.is_dropped.Goals as goal

pub returns : goal.returns
returns c =
    let same = dropped_iff_each c.args.slashes c.args.bytes.now in
    (λ answer. same.0 (c.drops_each.ensures.0 answer), λ it. c.drops_each.ensures.1 (same.1 it))

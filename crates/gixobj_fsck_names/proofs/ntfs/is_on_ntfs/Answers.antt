use Rattle.gixobj_fsck_names.proofs.NamesByByte.{on_ntfs_iff_each}
use Rattle.gixobj_fsck_names.proofs.ntfs.is_on_ntfs.Goals as goal

pub returns : goal.returns
returns c =
    let same = on_ntfs_iff_each c.args.slashes c.args.name.now c.args.letters.now in
    (λ answer. same.0 (c.spells_each.ensures.0 answer), λ it. c.spells_each.ensures.1 (same.1 it))

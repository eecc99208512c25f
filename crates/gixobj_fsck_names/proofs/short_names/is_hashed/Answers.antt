use Rattle.gixobj_fsck_names.proofs.NamesByByte.{hashed_iff_each}
use Rattle.gixobj_fsck_names.proofs.short_names.is_hashed.Goals as goal

pub returns : goal.returns
returns c =
    let same = hashed_iff_each c.args.hash.now c.args.bytes.now in
    (λ answer. same.0 (c.hashes_each.ensures.0 answer), λ it. c.hashes_each.ensures.1 (same.1 it))

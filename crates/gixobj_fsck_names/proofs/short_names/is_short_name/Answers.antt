use Rattle.gixobj_fsck_names.proofs.NamesByByte.{short_name_iff_each}
use Rattle.gixobj_fsck_names.proofs.short_names.is_short_name.Goals as goal

pub returns : goal.returns
returns c =
    let same = short_name_iff_each c.args.beginning.now c.args.name.now in
    (λ answer. same.0 (c.shortens_each.ensures.0 answer), λ it. c.shortens_each.ensures.1 (same.1 it))

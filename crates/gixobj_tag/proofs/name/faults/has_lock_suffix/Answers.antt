use Rattle.gixobj_tag.proofs.Names.{lock_suffix_iff_before_slash}
use Rattle.gixobj_tag.proofs.name.faults.has_lock_suffix.Goals as goal

pub returns-else-ends_with : goal.returns-else-ends_with
returns-else-ends_with c =
    lock_suffix_iff_before_slash c.args.name.now c.ends_with.result c.contains_str.result c.if-ends_with.false c.ends_with.ensures.value c.contains_str.ensures

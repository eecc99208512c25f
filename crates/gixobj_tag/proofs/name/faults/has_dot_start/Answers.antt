use Rattle.gixobj_tag.proofs.Names.{dot_start_iff_after_slash}
use Rattle.gixobj_tag.proofs.name.faults.has_dot_start.Goals as goal

pub returns-else-starts_with : goal.returns-else-starts_with
returns-else-starts_with c =
    dot_start_iff_after_slash c.args.name.now c.starts_with.result c.contains_str.result c.if-starts_with.false c.starts_with.ensures.value
    c.contains_str.ensures

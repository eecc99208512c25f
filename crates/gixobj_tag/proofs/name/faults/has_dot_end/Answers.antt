use Rattle.std.specs.Prelude.{codes}
use Rattle.gixobj_tag.proofs.Names.{ends_with_iff}
use Rattle.gixobj_tag.proofs.name.faults.has_dot_end.Goals as goal

pub returns : goal.returns
returns c = ends_with_iff c.args.name.now (codes ".") c.ends_with.result c.ends_with.ensures.value

use Rattle.std.specs.Prelude.{codes}
use Rattle.gixobj_tag.proofs.Names.{holds_iff}
use Rattle.gixobj_tag.proofs.name.faults.has_at_brace.Goals as goal

pub returns : goal.returns
returns c = holds_iff c.args.name.now (codes "@{") c.contains_str.result c.contains_str.ensures

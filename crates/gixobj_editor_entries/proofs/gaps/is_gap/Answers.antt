use Rattle.std.proofs.Common.{refl}
use Rattle.gixobj_editor_entries.proofs.gaps.is_gap.Goals as goal

pub returns : goal.returns
returns g c = λ yes. (c.args.index, c.if-not-is_less_before.ensures refl, c.is_greater_from.ensures yes)

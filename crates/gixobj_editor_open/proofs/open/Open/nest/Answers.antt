use Rattle.std.proofs.Common.{arith, length, ap}
use Rattle.gixobj_editor_open.specs.Nested.{Opened, child_list, parts}
use Rattle.gixobj_editor_open.proofs.PieceEnds.{length_first_le, length_of_first}
use Rattle.gixobj_editor_open.proofs.open.Open.nest.Goals as goal

pub returns-clause-some : goal.returns-clause-some
returns-clause-some c =
    let ps = parts (child_list c.into_parts-entries.result.2) in
    let it = c.replace_first-inner.ensures.replaced in
    let was = c.replace_first-inner.result in
    let all = ap (λ (ds : Opened). length ds) c.into_parts-entries.ensures.all in
    let waiting = ap (λ (ds : Opened). length ds) (c.in-Some.ensures {u = tt}).some in (
      omega (
        arith,
        length_of_first it.0 was c.in-Some.waiting ps (parts (child_list c.replace_first-inner.new.self)) (parts it.1) it.2 it.3,
        all,
        waiting,
      ),
      omega (arith, length_first_le it.0 was ps (parts it.1) it.2, all),
    )

use Rattle.std.proofs.Common.{arith}
use Rattle.gixobj_editor_open.proofs.PieceEnds.{first_is_empty, more_is_empty}
use Rattle.gixobj_editor_open.proofs.open.Children.is_empty.Goals as goal

pub returns-then-is_empty-clause-non_empty : goal.returns-then-is_empty-clause-non_empty
returns-then-is_empty-clause-non_empty c = λ some none.
    let gone = more_is_empty c.args.self.now none c.requires in
    grind (arith, gone)

pub returns-else-is_empty-clause-non_empty : goal.returns-else-is_empty-clause-non_empty
returns-else-is_empty-clause-non_empty c = λ some none.
    let gone = first_is_empty c.args.self.now none in
    grind (arith, gone)

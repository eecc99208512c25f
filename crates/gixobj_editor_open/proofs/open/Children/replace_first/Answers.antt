use Rattle.std.proofs.Common.{◌∙◌, ◌∷◌, ap, sym}
use Rattle.gixobj_editor_open.specs.Nested.{Opened, parts}
use Rattle.gixobj_editor_open.proofs.Pieces.{are_filled_with_child}
use Rattle.gixobj_editor_open.proofs.PieceEnds.{has_first_of_position}
use Rattle.gixobj_editor_open.proofs.open.Children.replace_first.Goals as goal

pub returns-clause-replaced : goal.returns-clause-replaced
returns-clause-replaced c =
    let at = c.first_position-at.result in
    let here = has_first_of_position c.args.self.now at.piece at.index c.at_mut-child.result.now c.replace.new.dest c.requires.some
    c.first_position-at.ensures.within c.first_position-at.ensures.first c.at_mut-child.ensures.value in (
      here.name,
      here.rest,
      here.before ∙ ap (λ (ds : Opened). (here.name, ds) ∷ parts here.rest) (sym c.replace.ensures.value),
      here.after ∙ ap (λ (ds : Opened). (here.name, ds) ∷ parts here.rest) c.replace.ensures.after,
    )

pub returns-clause-filled : goal.returns-clause-filled
returns-clause-filled c = are_filled_with_child c.args.self.now c.first_position-at.result.piece c.first_position-at.result.index _
    c.first_position-at.ensures.within c.requires.filled

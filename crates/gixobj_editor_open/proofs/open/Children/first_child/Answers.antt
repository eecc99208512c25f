use Rattle.std.proofs.Common.{◌∙◌, ◌++◌, List, ap, sym}
use Rattle.std.specs.List.{flat_map}
use Rattle.gixobj_editor_open.specs.declared.open.Child.{Child}
use Rattle.gixobj_editor_open.proofs.open.Children.first_child.Goals as goal

pub returns-clause-some : goal.returns-clause-some
returns-clause-some c =
    let others = flat_map (λ p. p.items) c.without_empty_piece-remaining.result.more.now in (
      c.in-Some.field-0-1.now ++ others,
      sym c.remaining-all.ensures.list ∙ sym c.without_empty_piece-remaining.ensures.list ∙ ap (λ (l : List Child). l ++ others) c.in-Some.ensures.cases.0,
    )

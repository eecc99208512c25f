use Rattle.std.proofs.Common.{◌∙◌, ◌++◌, List, ap, sym}
use Rattle.std.specs.List.{flat_map}
use Rattle.gixobj_editor_open.specs.Children.{next_child, pairs_after_next}
use Rattle.gixobj_editor_open.specs.declared.open.Child.{Child}
use Rattle.gixobj_editor_open.proofs.Pieces.{next_child_append, pairs_after_next_append}
use Rattle.gixobj_editor_open.proofs.children.Remaining.next_of.Goals as goal

pub returns-clause-next : goal.returns-clause-next
returns-clause-next c =
    let name = c.args.entry.now.name in
    let left = c.without_empty_piece-remaining in
    c.next_in.ensures.next ∙ sym (next_child_append name left.result.piece.now (flat_map (λ p. p.items) left.result.more.now) left.ensures.none)
    ∙ ap (next_child name) left.ensures.list

pub returns-clause-following : goal.returns-clause-following
returns-clause-following c =
    let name = c.args.entry.now.name in
    let left = c.without_empty_piece-remaining in
    let others = flat_map (λ p. p.items) left.result.more.now in
    ap (λ (l : List Child). l ++ others) c.next_in.ensures.following ∙ sym (pairs_after_next_append name left.result.piece.now others left.ensures.none)
    ∙ ap (pairs_after_next name) left.ensures.list

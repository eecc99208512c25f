use Rattle.std.proofs.Common.{◌∷◌, [], Bool, List, subst, sym}
use Rattle.gixobj_walks_marks.specs.Marks.{HasMarks}
use Rattle.gixobj_walks_known.proofs.difference.left_right_count.Goals as goal

pub returns-clause-left : goal.returns-clause-left
returns-clause-left c = c.in_ok-count_selected.ensures c.args.nodes.now (c.args.one ∷ []) (c.args.other ∷ [])
    (subst (λ (it : List Bool). HasMarks c.args.nodes.now (c.args.one ∷ []) it) (sym c.deref.ensures.value) c.in_ok-left.ensures.marks)
    (subst (λ (it : List Bool). HasMarks c.args.nodes.now (c.args.other ∷ []) it) (sym c.deref-2.ensures.value) c.in_ok-right.ensures.marks)

pub returns-clause-right : goal.returns-clause-right
returns-clause-right c = c.in_ok-count_selected-2.ensures c.args.nodes.now (c.args.other ∷ []) (c.args.one ∷ [])
    (subst (λ (it : List Bool). HasMarks c.args.nodes.now (c.args.other ∷ []) it) (sym c.deref-3.ensures.value) c.in_ok-right.ensures.marks)
    (subst (λ (it : List Bool). HasMarks c.args.nodes.now (c.args.one ∷ []) it) (sym c.deref-4.ensures.value) c.in_ok-left.ensures.marks)

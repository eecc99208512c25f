-- The tests are those of what was read and marked, for either side.
use Rattle.std.proofs.Common.{ℕ, Bool, [], ◌∷◌, IsTrue, List, subst}
use Rattle.gixobj_walks_graph.specs.Numbered.{Nodes, graph_at}
use Rattle.gixobj_walks_marks.specs.Marks.{HasMarks}
use Rattle.gixobj_walks_marks.specs.Settled.{IsSettledWalk}
use Rattle.gixobj_walks.proofs.difference.has_read_enough.Goals as goal

pub returns-then-is_left_settled : goal.returns-then-is_left_settled
returns-then-is_left_settled c = λ one other on_left on_right right_is.
    let Tested : Bool → Nodes → List Bool → List Bool → Type 0 = λ is nodes tips_marks hidden_marks. (tips hidden : List ℕ)
    → HasMarks nodes tips tips_marks → HasMarks nodes hidden hidden_marks → IsTrue is → IsSettledWalk (graph_at nodes) tips hidden in
    let first = subst (λ nodes. Tested c.in_ok-is_left_settled.is_left_settled nodes c.args.reading.now.left c.args.reading.now.right)
    c.nodes.ensures.nodes
    (subst (λ marks. Tested c.in_ok-is_left_settled.is_left_settled c.nodes.result.now marks c.args.reading.now.right) c.left.ensures.left
    (subst (λ marks. Tested c.in_ok-is_left_settled.is_left_settled c.nodes.result.now c.left.result.now marks) c.right.ensures.right
    c.in_ok-is_left_settled.ensures.settled)) in
    let second = subst (λ nodes. Tested c.in_ok-is_right_settled.is_right_settled nodes c.args.reading.now.right c.args.reading.now.left)
    c.nodes-2.ensures.nodes
    (subst (λ marks. Tested c.in_ok-is_right_settled.is_right_settled c.nodes-2.result.now marks c.args.reading.now.left)
    c.right-2.ensures.right
    (subst (λ marks. Tested c.in_ok-is_right_settled.is_right_settled c.nodes-2.result.now c.right-2.result.now marks)
    c.left-2.ensures.left c.in_ok-is_right_settled.ensures.settled)) in
    record {
      left = first (one ∷ []) (other ∷ []) on_left on_right c.if-is_left_settled.true;
      right = second (other ∷ []) (one ∷ []) on_right on_left right_is;
    }

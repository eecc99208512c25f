-- The test is that of what was read and marked.
use Rattle.std.proofs.Common.{ℕ, Bool, IfOk, IsTrue, List, subst}
use Rattle.gixobj_walks_graph.specs.Numbered.{Nodes, graph_at}
use Rattle.gixobj_walks_marks.specs.Marks.{HasMarks}
use Rattle.gixobj_walks_marks.specs.Settled.{IsSettledWalk}
use Rattle.gixobj_walks.proofs.walk.has_read_enough.Goals as goal

pub returns : goal.returns
returns c =
    let Tested : Nodes → List Bool → List Bool → Type 0 = λ nodes left right. IfOk c.is_settled_walk.result (λ is. (tips hidden : List ℕ)
    → HasMarks nodes tips left → HasMarks nodes hidden right → IsTrue is → IsSettledWalk (graph_at nodes) tips hidden) in
    subst (λ nodes. Tested nodes c.args.reading.now.left c.args.reading.now.right) c.nodes.ensures.nodes
    (subst (λ left. Tested c.nodes.result.now left c.args.reading.now.right) c.left.ensures.left
    (subst (λ right. Tested c.nodes.result.now c.left.result.now right) c.right.ensures.right c.is_settled_walk.ensures.settled))

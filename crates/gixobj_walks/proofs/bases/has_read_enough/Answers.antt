-- The test is that of what was read and marked.
use Rattle.std.proofs.Common.{ℕ, Bool, IfOk, IsTrue, List, [], ◌∷◌, subst}
use Rattle.gixobj_walks_graph.specs.Numbered.{Nodes, graph_at}
use Rattle.gixobj_walks_marks.specs.Marks.{HasMarks}
use Rattle.gixobj_walks_marks.specs.Settled.{IsSettledBases}
use Rattle.gixobj_walks.proofs.bases.has_read_enough.Goals as goal

pub returns : goal.returns
returns c =
    let Tested : Nodes → List Bool → List Bool → Type 0 = λ nodes left right. IfOk c.is_settled_bases.result (λ is. (one other : ℕ)
    → HasMarks nodes (one ∷ []) left → HasMarks nodes (other ∷ []) right → IsTrue is → IsSettledBases (graph_at nodes) one other) in
    subst (λ nodes. Tested nodes c.args.reading.now.left c.args.reading.now.right) c.nodes.ensures.nodes
    (subst (λ left. Tested c.nodes.result.now left c.args.reading.now.right) c.left.ensures.left
    (subst (λ right. Tested c.nodes.result.now c.left.result.now right) c.right.ensures.right c.is_settled_bases.ensures.settled))

use Rattle.std.proofs.Common.{ℕ, ◌<◌}
use Rattle.gixobj_walks_graph.specs.Numbered.{IsMarked}
use Rattle.gixobj_walks_marks.specs.Chosen.{IsWantedAt}
use Rattle.gixobj_walks_marks.proofs.chosen.are_wanted_marked.Given as goal

abbrev pub invariant-loop-number : goal.invariant-loop-number
invariant-loop-number l = (k : ℕ) → k < l.number → IsWantedAt l.nodes l.left l.right k → IsMarked l.marked k

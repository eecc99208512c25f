use Rattle.std.proofs.Common.{ℕ, Contains, take}
use Rattle.gixobj_walks_marks.specs.Chosen.{ReachesWanted}
use Rattle.gixobj_walks_marks.proofs.settled.all_reach_wanted.Given as goal

abbrev pub invariant-loop-start : goal.invariant-loop-start
invariant-loop-start l = (k : ℕ) → Contains (take l.start-index l.starts) k → ReachesWanted l.nodes l.left l.right k

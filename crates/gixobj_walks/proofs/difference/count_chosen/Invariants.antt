use Rattle.gixobj_walks.specs.Difference.{HasChosenCount}
use Rattle.gixobj_walks.proofs.difference.count_chosen.Given as goal

-- the numbers so far are counted
abbrev pub invariant-loop-number : goal.invariant-loop-number
invariant-loop-number l = HasChosenCount l.left l.right l.number l.count

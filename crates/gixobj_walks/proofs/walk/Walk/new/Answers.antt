-- The starts have numbers, and no commit is read.
use Rattle.gixobj_walks.proofs.Machines.{names_of_found}
use Rattle.gixobj_walks.proofs.walk.Walk.new.Goals as goal

pub returns-clause-tips : goal.returns-clause-tips
returns-clause-tips c = names_of_found _ _ c.args.tips.now c.in_ok-known.ensures.left

pub returns-clause-hidden : goal.returns-clause-hidden
returns-clause-hidden c = names_of_found _ _ c.args.hidden.now c.in_ok-known.ensures.right

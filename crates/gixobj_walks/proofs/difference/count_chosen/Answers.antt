-- The number is counted if the left side has it, and the right side doesn't.
use Rattle.std.proofs.Common.{◌+◌, subst, sym}
use Rattle.gixobj_walks.specs.Difference.{HasChosenCount}
use Rattle.gixobj_walks.proofs.Differences.{not_chosen, one_chosen}
use Rattle.gixobj_walks.proofs.difference.count_chosen.Goals as goal
use Rattle.gixobj_walks.proofs.difference.count_chosen.Goals.{else-is_chosen, then-is_chosen}

pub loop-number-preserved : goal.loop-number-preserved
loop-number-preserved c = elim c.if-is_chosen.branch [
  | then-is_chosen w ↦ subst (λ n. HasChosenCount c.args.left.now c.args.right.now (c.loop-number.number + 1) n) (sym w.count-is)
      (one_chosen c.args.left.now c.args.right.now c.loop-number.number c.loop-number.count c.is_chosen.result c.is_chosen.ensures
      c.loop-number.invariant w.if-is_chosen.true)
  | else-is_chosen w ↦ subst (λ n. HasChosenCount c.args.left.now c.args.right.now (c.loop-number.number + 1) n) (sym w.count-is)
      (not_chosen c.args.left.now c.args.right.now c.loop-number.number c.loop-number.count c.is_chosen.result c.is_chosen.ensures
      c.loop-number.invariant w.if-is_chosen.false)
]

use Rattle.gixobj_walks_marks.specs.Chosen.{IsBottomAt}
use Rattle.gixobj_walks_marks.proofs.Tests.{lists_more}
use Rattle.gixobj_walks_marks.proofs.chosen.bottoms.Goals as goal

pub loop-number-preserved : goal.loop-number-preserved
loop-number-preserved c = lists_more (IsBottomAt c.args.nodes.now c.args.left.now c.args.right.now)
    c.loop-number.number c.loop-number.found.items c.push_if.new.found.items c.is_bottom-is.result
    c.is_bottom-is.ensures c.in_ok-push_if.ensures c.loop-number.invariant

use Rattle.gixobj_walks_marks.specs.Chosen.{IsChosen}
use Rattle.gixobj_walks_marks.proofs.Tests.{lists_more}
use Rattle.gixobj_walks_marks.proofs.bases.list_chosen.Goals as goal

pub loop-number-preserved : goal.loop-number-preserved
loop-number-preserved c = lists_more (IsChosen c.args.left.now c.args.right.now) c.loop-number.number
    c.loop-number.found.items c.push_if.new.found.items c.is_chosen-is.result c.is_chosen-is.ensures
    c.in_ok-push_if.ensures c.loop-number.invariant

use Rattle.gixobj_walks_marks.specs.Chosen.{IsChosen}
use Rattle.gixobj_walks_marks.proofs.SharedMarks.{marks_more}
use Rattle.gixobj_walks_marks.proofs.bases.chosen_marks.Goals as goal

pub loop-number-preserved : goal.loop-number-preserved
loop-number-preserved c = marks_more (IsChosen c.args.left.now c.args.right.now) c.loop-number.number
    c.loop-number.chosen.items c.push.new.self.items c.is_chosen-is.result c.is_chosen-is.ensures
    c.in_ok-push.ensures.items c.loop-number.invariant

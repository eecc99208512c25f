use Rattle.gixobj_walks_marks.specs.Chosen.{IsShared}
use Rattle.gixobj_walks_marks.proofs.SharedMarks.{marks_more}
use Rattle.gixobj_walks_marks.proofs.bases.shared_marks.Goals as goal

pub loop-number-preserved : goal.loop-number-preserved
loop-number-preserved c = marks_more (IsShared c.args.left.now c.args.right.now) c.loop-number.number
    c.loop-number.shared.items c.push.new.self.items c.is_shared-is.result c.is_shared-is.ensures
    c.in_ok-push.ensures.items c.loop-number.invariant

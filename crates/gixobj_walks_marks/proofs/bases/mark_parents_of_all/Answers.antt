use Rattle.std.proofs.Common.{arith}
use Rattle.gixobj_walks_marks.specs.Chosen.{HasMarkedChild}
use Rattle.gixobj_walks_marks.proofs.SharedMarks.{adds_children, adds_none}
use Rattle.gixobj_walks_marks.proofs.bases.mark_parents_of_all.Goals as goal

pub loop-number-init : goal.loop-number-init
loop-number-init c = adds_none (HasMarkedChild c.args.nodes.now c.args.side.now 0) c.args.marked.now.items
    (λ number has. absurd (omega (arith, has.1)))

pub loop-number-preserved : goal.loop-number-preserved
loop-number-preserved c = adds_children c.args.nodes.now c.args.side.now c.args.marked.now.items
    c.loop-number.marked.items c.mark_parents_of.new.marked.items c.loop-number.number c.loop-number.invariant
    c.mark_parents_of.ensures

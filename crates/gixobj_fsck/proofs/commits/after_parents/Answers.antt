use Rattle.gixobj_fsck.specs.Commits.{bad_parent, next_parent, no_parent}
use Rattle.gixobj_fsck.proofs.commits.after_parents.Goals as goal

pub loop-after-preserved : goal.loop-after-preserved
loop-after-preserved c = λ outcome follows. c.loop-after.invariant outcome (next_parent _ _ _ outcome c.in-Some.ensures.found follows)

pub returns-in-Some-after_name : goal.returns-in-Some-after_name
returns-in-Some-after_name c =
    c.loop-after.invariant _ (bad_parent _ (c.in-Some-after_name.field-0.now, c.in-Some-after_name.ensures.found) c.in_default.ensures.none)

pub returns-in-None : goal.returns-in-None
returns-in-None c = c.loop-after.invariant _ (no_parent _ c.in-None.ensures.none)

use Rattle.gixobj_fsck.specs.Commits.{bad_author, last_author, next_author}
use Rattle.gixobj_fsck.proofs.commits.fault_of_more_authors.Goals as goal

pub returns-in-Err : goal.returns-in-Err
returns-in-Err c = c.loop-actor.invariant _ (bad_author _ _ _ c.in-Some.ensures.found c.in-Err.ensures)

pub loop-actor-preserved : goal.loop-actor-preserved
loop-actor-preserved c = λ fault follows. c.loop-actor.invariant fault
    (next_author _ _ _ _ fault c.in-Some.ensures.found c.in_default-after_actor.ensures c.after_line-rest.ensures follows)

pub returns : goal.returns
returns c = c.loop-actor.invariant _ (last_author _ c.in_default.ensures.none)

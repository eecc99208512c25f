use Rattle.std.proofs.Common.{ap, arith, length}
use Rattle.gixobj_fsck_messages.specs.Options.{severity_by}
use Rattle.gixobj_fsck_findings.specs.Checks.{offset_of}
use Rattle.gixobj_fsck_findings.specs.CommitChecks.{last_author, next_author, no_author}
use Rattle.gixobj_fsck_findings.proofs.Rests.{after_line_le, rest_of_actor}
use Rattle.gixobj_fsck_findings.proofs.commits.check_author_lines.Goals as goal

pub returns-in_default-2 : goal.returns-in_default-2
returns-in_default-2 c =
    c.loop-actor.invariant _ _ (last_author _ _ _ (c.in-Some.actor.now, c.in-Some.ensures.found, rw c.in_default-2.is at c.in_ok-after.ensures))

pub loop-actor-preserved : goal.loop-actor-preserved
loop-actor-preserved c = λ after outcome follows.
    c.loop-actor.invariant after outcome
    (next_author _ _ _ _ after outcome (c.in-Some.actor.now, c.in-Some.ensures.found, rw c.in-Some-2.is at c.in_ok-after.ensures) follows)

pub loop-actor-smaller : goal.loop-actor-smaller
loop-actor-smaller c =
    let line = rest_of_actor (severity_by c.args.options.now) (offset_of c.args.commit.now c.loop-actor.rest.now) c.in-Some.actor.now _ _
    c.in-Some-2.after.now (rw c.in-Some-2.is at c.in_ok-after.ensures)
    in
    let le = after_line_le c.in-Some.actor.now c.in-Some-2.after.now line in
    let joined = ap length c.in-Some.ensures.found in
    omega (arith, le, joined)

pub returns : goal.returns
returns c = c.loop-actor.invariant _ _ (no_author _ _ c.in_default.ensures.none)

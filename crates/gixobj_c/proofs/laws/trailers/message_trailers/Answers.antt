-- Each call adds the trailer that it found; at the end there are all.
use Rattle.gixobj_c.proofs.TrailerRuns.{all_trailers, has_found_next, has_found_none, has_written, no_memory_for_trailer, status_of_trailer_run}
use Rattle.gixobj_c.proofs.TrailerRuns.{trailer_calls_advance}
use Rattle.gixobj_c.proofs.laws.trailers.message_trailers.Goals as goal

pub calls-init : goal.calls-init
calls-init c = has_found_none c.args.message.now _ c.new-found.ensures.items

pub returns-then-status-eq-AT_END : goal.returns-then-status-eq-AT_END
returns-then-status-eq-AT_END c = all_trailers c.args.message.now _ _ _ _ _ _ _ _ _ _ _ _ c.calls.invariant c.gixobj_trailer-status.ensures
    c.if-status-eq-AT_END.true

pub returns-then-status-ne-DONE : goal.returns-then-status-ne-DONE
returns-then-status-ne-DONE c = status_of_trailer_run c.args.message.now _ _ _ _ _ _ _ _ _ _ _ _ _ _ c.calls.invariant c.gixobj_trailer-status.ensures
    c.calls.auto.token c.calls.auto.value c.if-status-eq-AT_END.false c.if-status-ne-DONE.true

pub returns-in_default : goal.returns-in_default
returns-in_default c = no_memory_for_trailer c.args.message.now _ _ _ _ _ _ _ _ _ c.calls.invariant
    (has_written c.args.message.now _ _ _ _ _ _ _ _ _ _ _ c.gixobj_trailer-status.ensures c.if-status-ne-DONE.false)

pub calls-smaller : goal.calls-smaller
calls-smaller c = trailer_calls_advance c.args.message.now _ _ _ _ _ _
    (has_written c.args.message.now _ _ _ _ _ _ _ _ _ _ _ c.gixobj_trailer-status.ensures c.if-status-ne-DONE.false)

pub calls-preserved : goal.calls-preserved
calls-preserved c = has_found_next c.args.message.now _ _ _ _ _ _ _ _ _ c.calls.invariant
    (has_written c.args.message.now _ _ _ _ _ _ _ _ _ _ _ c.gixobj_trailer-status.ensures c.if-status-ne-DONE.false) c.in-Ok.ensures.token
    c.in-Ok.ensures.value c.in-Ok-push.ensures.items

pub returns-in_default-push : goal.returns-in_default-push
returns-in_default-push c = no_memory_for_trailer c.args.message.now _ _ _ _ _ _ _ _ _ c.calls.invariant
    (has_written c.args.message.now _ _ _ _ _ _ _ _ _ _ _ c.gixobj_trailer-status.ensures c.if-status-ne-DONE.false)

-- Bytes without a space are malformed; else the bytes before and after the first space decode to seconds and offset.
use Rattle.gixobj_actor.proofs.EncodedTimes.{malformed_time_without_space, time_splits_at_space}
use Rattle.gixobj_actor.proofs.date.parse_header.Goals as goal

pub returns-in_err-seconds-clause-none : goal.returns-in_err-seconds-clause-none
returns-in_err-seconds-clause-none c = rw c.from_residual.ensures (malformed_time_without_space _ c.in_err-seconds.ensures.none)

pub returns-in_err-seconds-2-clause-none : goal.returns-in_err-seconds-2-clause-none
returns-in_err-seconds-2-clause-none c =
    rw c.from_residual-in_err-seconds-2.ensures (λ seconds offset time.
    c.in_err-seconds-2.ensures.none seconds (time_splits_at_space _ _ _ seconds offset c.in_ok-seconds.ensures.found time).0)

pub returns-in_err-offset-clause-none : goal.returns-in_err-offset-clause-none
returns-in_err-offset-clause-none c =
    rw c.from_residual-in_err-offset.ensures (λ seconds offset time.
    c.in_err-offset.ensures.none offset (time_splits_at_space _ _ _ seconds offset c.in_ok-seconds.ensures.found time).1)

-- Bytes of another length, or whose digits are no hours or minutes, decode to no offset.
use Rattle.std.proofs.Common.{arith, rules}
use Rattle.gixobj_actor.proofs.OffsetBytes.{no_offset_of_hours, no_offset_of_minutes, no_offset_past_59_minutes, offset_len_five}
use Rattle.gixobj_actor.proofs.date.offset_from_bytes.Goals as goal

pub returns-in_default-clause-none : goal.returns-in_default-clause-none
returns-in_default-clause-none c = λ offset decodes. omega (arith, offset_len_five c.args.input.now offset decodes)

pub returns-in_default-3-clause-none : goal.returns-in_default-3-clause-none
returns-in_default-3-clause-none c = λ offset decodes. omega (arith, offset_len_five c.args.input.now offset decodes)

pub returns-in_err-hours-clause-none : goal.returns-in_err-hours-clause-none
returns-in_err-hours-clause-none c = rw c.from_residual.ensures (no_offset_of_hours c.args.input.now c.in_err-hours.ensures.none)

pub returns-in_err-minutes-clause-none : goal.returns-in_err-minutes-clause-none
returns-in_err-minutes-clause-none c =
    rw c.from_residual-in_err-minutes.ensures (no_offset_of_minutes c.args.input.now c.in_err-minutes.ensures.none)

pub returns-then-minutes-gt59-clause-none : goal.returns-then-minutes-gt59-clause-none
returns-then-minutes-gt59-clause-none c =
    no_offset_past_59_minutes c.args.input.now c.in_ok-minutes.minutes c.in_ok-minutes.ensures.found.1 c.if-minutes-gt59.true

pub offset_of-requires-clause-minutes : goal.offset_of-requires-clause-minutes
offset_of-requires-clause-minutes c = search rules

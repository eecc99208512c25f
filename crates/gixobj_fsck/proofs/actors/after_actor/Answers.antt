use Rattle.std.proofs.Common.{inl, inr}
use Rattle.gixobj_fsck.specs.Actors.{EmailPart, NamePart}
use Rattle.gixobj_fsck.specs.Dates.{DateNumber, DateStart, ZonePart}
use Rattle.gixobj_fsck.specs.Steps.{Then}
use Rattle.gixobj_fsck.proofs.Parts.{then_match}
use Rattle.gixobj_fsck.proofs.actors.after_actor.Goals as goal

pub returns-in-Err-after_date_start : goal.returns-in-Err-after_date_start
returns-in-Err-after_date_start c =
    inr (c.in-Ok.email.now, c.in-Ok.ensures, inr (c.in-Ok-after_email.start.now, c.in-Ok-after_email.ensures, inl c.in-Err-after_date_start.ensures))

pub returns-in-Err-after_date : goal.returns-in-Err-after_date
returns-in-Err-after_date c =
    inr (
      c.in-Ok.email.now,
      c.in-Ok.ensures,
      inr (
        c.in-Ok-after_email.start.now,
        c.in-Ok-after_email.ensures,
        inr (c.in-Ok-after_date_start.date.now, c.in-Ok-after_date_start.ensures, inl c.in-Err-after_date.ensures),
      ),
    )

pub returns : goal.returns
returns c =
    then_match NamePart (Then EmailPart (Then DateStart (Then DateNumber ZonePart))) c.args.input.now c.in-Ok.email.now c.after_zone.result c.in-Ok.ensures
    (then_match EmailPart (Then DateStart (Then DateNumber ZonePart)) c.in-Ok.email.now c.in-Ok-after_email.start.now c.after_zone.result
    c.in-Ok-after_email.ensures
    (then_match DateStart (Then DateNumber ZonePart) c.in-Ok-after_email.start.now c.in-Ok-after_date_start.date.now c.after_zone.result
    c.in-Ok-after_date_start.ensures
    (then_match DateNumber ZonePart c.in-Ok-after_date_start.date.now c.in-Ok-after_date.zone.now c.after_zone.result
    c.in-Ok-after_date.ensures c.after_zone.ensures)))

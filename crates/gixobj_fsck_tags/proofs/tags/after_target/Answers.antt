use Rattle.std.proofs.Common.{inl, inr}
use Rattle.std.specs.Prelude.{codes}
use Rattle.gixobj_fsck.specs.Headers.{HeaderPart}
use Rattle.gixobj_fsck.specs.Lines.{IdLine}
use Rattle.gixobj_fsck.specs.Steps.{Then}
use Rattle.gixobj_fsck_messages.specs.declared.message.Message.TheVariants as message
use Rattle.gixobj_fsck_tags.specs.Tags.{TypeLine}
use Rattle.gixobj_fsck.proofs.Parts.{then_match}
use Rattle.gixobj_fsck_tags.proofs.tags.after_target.Goals as goal

pub returns-in-Err-after_id_line : goal.returns-in-Err-after_id_line
returns-in-Err-after_id_line c = inr (c.in-Ok.object.now, c.in-Ok.ensures, inl c.in-Err-after_id_line.ensures)

pub returns : goal.returns
returns c =
    then_match HeaderPart (Then (IdLine (codes "object") c.args.kind message.MissingObject message.BadObjectSha1) TypeLine)
    c.args.tag.now c.in-Ok.object.now c.after_type.result c.in-Ok.ensures
    (then_match (IdLine (codes "object") c.args.kind message.MissingObject message.BadObjectSha1) TypeLine
    c.in-Ok.object.now c.in-Ok-after_id_line.target_type.now c.after_type.result c.in-Ok-after_id_line.ensures c.after_type.ensures)

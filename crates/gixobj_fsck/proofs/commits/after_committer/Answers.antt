use Rattle.std.proofs.Common.{inl, inr}
use Rattle.std.specs.Prelude.{codes}
use Rattle.gixobj_fsck.specs.Commits.{PeoplePart}
use Rattle.gixobj_fsck.specs.Headers.{HeaderPart}
use Rattle.gixobj_fsck.specs.Lines.{IdLine}
use Rattle.gixobj_fsck.specs.Steps.{Then}
use Rattle.gixobj_fsck_messages.specs.declared.message.Message.TheVariants as message
use Rattle.gixobj_fsck.proofs.Parts.{then_match}
use Rattle.gixobj_fsck.proofs.commits.after_committer.Goals as goal

pub returns-in-Err-after_id_line : goal.returns-in-Err-after_id_line
returns-in-Err-after_id_line c = inr (c.in-Ok.tree.now, c.in-Ok.ensures, inl c.in-Err-after_id_line.ensures)

pub returns : goal.returns
returns c =
    then_match HeaderPart (Then (IdLine (codes "tree") c.args.kind message.MissingTree message.BadTreeSha1) (PeoplePart c.args.kind))
    c.args.commit.now c.in-Ok.tree.now c.after_people.result c.in-Ok.ensures
    (then_match (IdLine (codes "tree") c.args.kind message.MissingTree message.BadTreeSha1) (PeoplePart c.args.kind)
    c.in-Ok.tree.now c.in-Ok-after_id_line.parents.now c.after_people.result c.in-Ok-after_id_line.ensures c.after_people.ensures)

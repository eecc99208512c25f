use Rattle.std.proofs.Common.{inl, inr}
use Rattle.std.specs.Prelude.{codes}
use Rattle.gixobj_fsck.specs.Commits.{NoMoreAuthors, ParentLines}
use Rattle.gixobj_fsck.specs.Lines.{ActorLine}
use Rattle.gixobj_fsck.specs.Steps.{Then}
use Rattle.gixobj_fsck_messages.specs.declared.message.Message.TheVariants as message
use Rattle.gixobj_fsck.proofs.Parts.{then_match}
use Rattle.gixobj_fsck.proofs.commits.after_people.Goals as goal

pub returns-in-Err-after_last_author : goal.returns-in-Err-after_last_author
returns-in-Err-after_last_author c =
    inr (
      c.in-Ok.authors.now,
      c.in-Ok.ensures,
      inr (c.in-Ok-after_actor_line.more.now, c.in-Ok-after_actor_line.ensures, inl c.in-Err-after_last_author.ensures),
    )

pub returns : goal.returns
returns c =
    then_match (ParentLines c.args.kind) (Then (ActorLine (codes "author") message.MissingAuthor)
    (Then NoMoreAuthors (ActorLine (codes "committer") message.MissingCommitter)))
    c.args.input.now c.in-Ok.authors.now c.after_actor_line-2.result c.in-Ok.ensures
    (then_match (ActorLine (codes "author") message.MissingAuthor) (Then NoMoreAuthors (ActorLine (codes "committer") message.MissingCommitter))
    c.in-Ok.authors.now c.in-Ok-after_actor_line.more.now c.after_actor_line-2.result c.in-Ok-after_actor_line.ensures
    (then_match NoMoreAuthors (ActorLine (codes "committer") message.MissingCommitter) c.in-Ok-after_actor_line.more.now
    c.in-Ok-after_last_author.committer.now c.after_actor_line-2.result c.in-Ok-after_last_author.ensures c.after_actor_line-2.ensures))

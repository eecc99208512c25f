use Rattle.std.proofs.Common.{refl}
use Rattle.gixobj_editor_import.proofs.LegalActors.{actor_rejected, actors_legal}
use Rattle.gixobj_editor_import.proofs.commits.bytes_of.Goals as goal

pub returns-in-Ok-clause-encodable : goal.returns-in-Ok-clause-encodable
returns-in-Ok-clause-encodable c = actors_legal c.args.step.now c.in_ok-commit.commit c.in_ok-commit.ensures.author c.in_ok-commit.ensures.committer
    c.in-Ok.ensures.no_error

pub returns-in-Err-IllegalActor-clause-error : goal.returns-in-Err-IllegalActor-clause-error
returns-in-Err-IllegalActor-clause-error c =
    let why = rw c.in-Err-IllegalActor.field-0-is at c.in-Err-IllegalActor.ensures.error in (
      refl,
      actor_rejected c.args.step.now c.in_ok-commit.commit c.in_ok-commit.ensures.author c.in_ok-commit.ensures.committer c.args.tree c.args.parent why.0
          c.in_ok-commit.ensures.lines why.1,
    )

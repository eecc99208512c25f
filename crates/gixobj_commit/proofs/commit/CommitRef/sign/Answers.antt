use Rattle.gixobj_commit.specs.CommitViews.{commit_lines}
use Rattle.gixobj_commit.proofs.CommitSigned.{rejected_copy, signed_copy}
use Rattle.gixobj_commit.proofs.commit.CommitRef.sign.Goals as goal

pub returns-in-Ok-clause-signed : goal.returns-in-Ok-clause-signed
returns-in-Ok-clause-signed g c =
    signed_copy g.R.Runner.runs c.args.options (commit_lines c.args.self) c.in-Ok.commit c.in-Ok.ensures.owned c.args.runner.now c.sign.new.runner c.sign.result
    c.sign.ensures.signed

pub returns-in-Ok-clause-error : goal.returns-in-Ok-clause-error
returns-in-Ok-clause-error g c =
    rejected_copy g.R.Runner.runs c.args.options (commit_lines c.args.self) c.in-Ok.commit c.in-Ok.ensures.owned c.args.runner.now c.sign.new.runner
    c.sign.result c.sign.ensures.error

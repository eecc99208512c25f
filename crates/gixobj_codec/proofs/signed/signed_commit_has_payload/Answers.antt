use Rattle.gixobj_codec.proofs.SignersPayloads.{commit_decoded, commit_found, commit_payload}
use Rattle.gixobj_codec.proofs.signed.signed_commit_has_payload.Goals as goal

pub returns-clause-found : goal.returns-clause-found
returns-clause-found g c =
    commit_found g.R.Runner.runs c.args.options c.args.runner.now c.sign.new.runner c.args.commit c.owned_commits_have_line_fields.ensures c.sign.result
    c.sign.ensures.signed

pub returns-clause-decoded : goal.returns-clause-decoded
returns-clause-decoded g c =
    commit_decoded g.R.Runner.runs c.args.options c.args.runner.now c.sign.new.runner c.args.commit c.owned_commits_have_line_fields.ensures c.sign.result
    c.sign.ensures.signed

pub returns-clause-payload : goal.returns-clause-payload
returns-clause-payload g c =
    commit_payload g.R.Runner.runs c.args.options c.args.runner.now c.sign.new.runner c.args.commit c.owned_commits_have_line_fields.ensures c.sign.result
    c.sign.ensures.signed

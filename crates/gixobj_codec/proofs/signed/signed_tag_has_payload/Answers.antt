use Rattle.gixobj_codec.proofs.SignersPayloads.{tag_found, tag_payload}
use Rattle.gixobj_codec.proofs.signed.signed_tag_has_payload.Goals as goal

pub returns-clause-found : goal.returns-clause-found
returns-clause-found g c = tag_found g.R.Runner.runs c.args.options c.args.runner.now c.sign.new.runner c.args.tag c.sign.result c.sign.ensures.signed

pub returns-clause-payload : goal.returns-clause-payload
returns-clause-payload g c = tag_payload g.R.Runner.runs c.args.options c.args.runner.now c.sign.new.runner c.args.tag c.sign.result c.sign.ensures.signed

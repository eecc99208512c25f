use Rattle.std.proofs.Common.{◌∙◌}
use Rattle.gixobj_tag.proofs.TagSigned.{signing_error_of_runner, signing_error_of_write, is_signed_tag_of_signature}
use Rattle.gixobj_tag.proofs.tag.Tag.sign.Goals as goal

pub returns-in-Ok-clause-signed : goal.returns-in-Ok-clause-signed
returns-in-Ok-clause-signed g c =
    is_signed_tag_of_signature g.R.Runner.runs c.args.options c.args.self c.without_signature-unsigned.result c.without_signature-unsigned.ensures
    c.deref.result.now
    (c.deref.ensures.value ∙ c.in-Ok.ensures.encoded) c.in-Ok.ensures.writable c.args.runner.now c.sign_written.new.runner c.sign_written.result
    c.sign_written.ensures.signed

pub returns-in-Ok-clause-error : goal.returns-in-Ok-clause-error
returns-in-Ok-clause-error g c =
    signing_error_of_runner g.R.Runner.runs c.args.options c.args.self c.without_signature-unsigned.result c.without_signature-unsigned.ensures
    c.deref.result.now
    (c.deref.ensures.value ∙ c.in-Ok.ensures.encoded) c.in-Ok.ensures.writable c.args.runner.now c.sign_written.new.runner c.sign_written.result
    c.sign_written.ensures.error

pub returns-in-Err-clause-error : goal.returns-in-Err-clause-error
returns-in-Err-clause-error g c =
    signing_error_of_write g.R.Runner.runs c.args.options c.args.self c.without_signature-unsigned.result c.without_signature-unsigned.ensures c.args.runner.now
    c.in-Err.error c.in-Err.ensures.error

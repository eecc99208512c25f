use Rattle.std.proofs.Common.{ap, ◌∙◌}
use Rattle.gixobj_grammar.specs.CommitSignatures.{signature_field}
use Rattle.gixobj_commit.proofs.CommitSigned.{failed_signing, rejected_unwritten, signed}
use Rattle.gixobj_commit.proofs.commit.Commit.sign.Goals as goal

pub returns-in-Ok-clause-signed : goal.returns-in-Ok-clause-signed
returns-in-Ok-clause-signed g c =
    let unsigned = c.without_headers_of-unsigned in
    let named = c.as_bytes-field.ensures.value ∙ c.signature_field_name.ensures ∙ ap signature_field c.kind.ensures in
    signed c.args.self unsigned.result unsigned.ensures.unchanged c.as_bytes-field.result.now named unsigned.ensures.lines g.R.Runner.runs c.args.options
    c.deref.result.now
    (c.deref.ensures.value ∙ c.in-Ok.ensures.encoded) c.in-Ok.ensures.writable c.args.runner.now c.sign_written.new.runner c.sign_written.result
    c.sign_written.ensures.signed

pub returns-in-Ok-clause-error : goal.returns-in-Ok-clause-error
returns-in-Ok-clause-error g c =
    let unsigned = c.without_headers_of-unsigned in
    let named = c.as_bytes-field.ensures.value ∙ c.signature_field_name.ensures ∙ ap signature_field c.kind.ensures in
    failed_signing c.args.self unsigned.result unsigned.ensures.unchanged c.as_bytes-field.result.now named unsigned.ensures.lines g.R.Runner.runs
    c.args.options c.deref.result.now
    (c.deref.ensures.value ∙ c.in-Ok.ensures.encoded) c.in-Ok.ensures.writable c.args.runner.now c.sign_written.new.runner c.sign_written.result
    c.sign_written.ensures.error

pub returns-in-Err-clause-error : goal.returns-in-Err-clause-error
returns-in-Err-clause-error g c =
    let unsigned = c.without_headers_of-unsigned in
    let named = c.as_bytes-field.ensures.value ∙ c.signature_field_name.ensures ∙ ap signature_field c.kind.ensures in
    rejected_unwritten c.args.self unsigned.result unsigned.ensures.unchanged c.as_bytes-field.result.now named unsigned.ensures.lines g.R.Runner.runs
    c.args.options c.args.runner.now c.in-Err.error
    c.in-Err.ensures.error

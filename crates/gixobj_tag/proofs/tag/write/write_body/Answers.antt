-- If the message fails, a prefix of it is one of the body; the signature follows the message.
use Rattle.std.proofs.lemmas.Result.{err_from_is_err_and}
use Rattle.bstr.specs.BStr.{bstr_bytes}
use Rattle.gixobj_streams.proofs.Appends.{appends_prefix_first, appends_or_fails_append}
use Rattle.gixobj_tag.specs.TagWriting.{encode_message, encode_signature}
use Rattle.gixobj_hash.specs.Optional.{bytes_if_some}
use Rattle.gixobj_tag.proofs.tag.write.write_body.Goals as goal

pub returns-in_err-write_message-clause-appended : goal.returns-in_err-write_message-clause-appended
returns-in_err-write_message-clause-appended g c =
    let from = err_from_is_err_and c.from_residual.result c.from_residual.ensures.1 in
    rw (from.1, from.2) (appends_prefix_first _ _ (encode_message (bstr_bytes c.args.message)) (encode_signature (bytes_if_some c.args.signature))
    c.in_err-write_message.ensures.appended)

pub returns-clause-appended : goal.returns-clause-appended
returns-clause-appended g c =
    appends_or_fails_append _ _ _ _ (encode_message (bstr_bytes c.args.message)) (encode_signature (bytes_if_some c.args.signature))
    c.in_ok-write_message.ensures.appended c.write_signature.ensures.appended

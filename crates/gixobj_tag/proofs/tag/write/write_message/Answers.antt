-- The message follows its opening.
use Rattle.std.proofs.lemmas.Result.{err_from_is_err_and}
use Rattle.bstr.specs.BStr.{bstr_bytes}
use Rattle.gixobj_streams.proofs.Appends.{appends_prefix_first, appends_or_fails_append}
use Rattle.gixobj_tag.proofs.tag.write.write_message.Goals as goal

pub returns-in_err-write_bytes-clause-appended : goal.returns-in_err-write_bytes-clause-appended
returns-in_err-write_bytes-clause-appended g c =
    let from = err_from_is_err_and c.from_residual.result c.from_residual.ensures.1 in
    rw (from.1, from.2, c.opening.ensures.encoded)
    (appends_prefix_first _ _ c.opening.result.now (bstr_bytes c.args.message) c.in_err-write_bytes.ensures.appended)

pub returns-clause-appended : goal.returns-clause-appended
returns-clause-appended g c =
    rw (c.opening.ensures.encoded, ← c.as_bytes.ensures)
    (appends_or_fails_append _ _ _ _ c.opening.result.now c.as_bytes.result.now c.in_ok-write_bytes.ensures.appended c.write_bytes-2.ensures.appended)

-- If the newline fails, nothing is written; the bytes follow it.
use Rattle.std.proofs.lemmas.Result.{err_from_is_err_and}
use Rattle.bstr.specs.BStr.{bstr_bytes}
use Rattle.gixobj_tag.proofs.TagWrites.{appends_prefix_cons, appends_or_fails_cons}
use Rattle.gixobj_tag.proofs.tag.write.write_after_newline.Goals as goal

pub returns-in_err-write_bytes-clause-appended : goal.returns-in_err-write_bytes-clause-appended
returns-in_err-write_bytes-clause-appended g c =
    let from = err_from_is_err_and c.from_residual.result c.from_residual.ensures.1 in
    rw (from.1, from.2) (appends_prefix_cons _ _ 10 (bstr_bytes c.args.content) c.in_err-write_bytes.ensures.appended)

pub returns-clause-appended : goal.returns-clause-appended
returns-clause-appended g c =
    rw (← c.as_bytes.ensures) (appends_or_fails_cons _ _ _ _ 10 c.as_bytes.result.now c.in_ok-write_bytes.ensures.appended c.write_bytes-2.ensures.appended)

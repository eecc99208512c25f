-- The append of the first part is a step of the append of both.
use Rattle.std.proofs.lemmas.Result.{err_from_is_err_and}
use Rattle.gixobj_streams.proofs.Appends.{appends_or_fails_append, appends_prefix_first}
use Rattle.gixobj_encode.proofs.encode.write_both.Goals as goal

pub returns-in_err-write_bytes-clause-appended : goal.returns-in_err-write_bytes-clause-appended
returns-in_err-write_bytes-clause-appended g c =
    let p = err_from_is_err_and c.from_residual.result c.from_residual.ensures.1 in
    rw (p.1, p.2) (appends_prefix_first _ _ c.args.first.now c.args.second.now c.in_err-write_bytes.ensures.appended)

pub returns-clause-appended : goal.returns-clause-appended
returns-clause-appended g c =
    appends_or_fails_append _ _ _ _ c.args.first.now c.args.second.now c.in_ok-write_bytes.ensures.appended c.write_bytes-2.ensures.appended

-- The name and a space are a step of the append of the field.
use Rattle.std.proofs.lemmas.Result.{err_from_is_err_and}
use Rattle.gixobj_streams.proofs.Appends.{appends_or_fails_after_byte, appends_prefix_before_byte}
use Rattle.gixobj_encode.proofs.encode.trusted_header_field.Goals as goal

pub returns-in_err-write_both-clause-appended : goal.returns-in_err-write_both-clause-appended
returns-in_err-write_both-clause-appended g c =
    let p = err_from_is_err_and c.from_residual.result c.from_residual.ensures.1 in
    rw (p.1, p.2) (appends_prefix_before_byte _ _ c.args.name.now 32 _ c.in_err-write_both.ensures.appended)

pub returns-clause-appended : goal.returns-clause-appended
returns-clause-appended g c =
    appends_or_fails_after_byte _ _ _ _ c.args.name.now 32 _ c.in_ok-write_both.ensures.appended c.write_both-2.ensures.appended

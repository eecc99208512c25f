-- The value and the newline follow the name.
use Rattle.std.proofs.lemmas.Result.{err_from_is_err_and}
use Rattle.gixobj_streams.proofs.Appends.{appends_prefix_first, appends_or_fails_append}
use Rattle.gixobj_hash.specs.FieldFormat.{encode_line}
use Rattle.gixobj_tag.proofs.tag.write.write_line.Goals as goal

pub returns-in_err-write_bytes-clause-appended : goal.returns-in_err-write_bytes-clause-appended
returns-in_err-write_bytes-clause-appended g c =
    let from = err_from_is_err_and c.from_residual.result c.from_residual.ensures.1 in
    rw (from.1, from.2) (appends_prefix_first _ _ c.args.prefix.now (encode_line c.args.value.now) c.in_err-write_bytes.ensures.appended)

pub returns-clause-appended : goal.returns-clause-appended
returns-clause-appended g c = appends_or_fails_append _ _ _ _ c.args.prefix.now (encode_line c.args.value.now) c.in_ok-write_bytes.ensures.appended
    c.write_value.ensures.appended

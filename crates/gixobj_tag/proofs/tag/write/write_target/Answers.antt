-- The line of the kind follows that of the target.
use Rattle.std.proofs.lemmas.Result.{err_from_is_err_and}
use Rattle.std.specs.Prelude.{codes}
use Rattle.gixobj_streams.proofs.Appends.{appends_prefix_first, appends_or_fails_append}
use Rattle.gixobj_hash.specs.FieldFormat.{encode_field}
use Rattle.gixobj_hash.specs.Kind.{kind_name}
use Rattle.gixobj_tag.proofs.tag.write.write_target.Goals as goal

pub returns-in_err-write_target_line-clause-appended : goal.returns-in_err-write_target_line-clause-appended
returns-in_err-write_target_line-clause-appended g c =
    let from = err_from_is_err_and c.from_residual.result c.from_residual.ensures.1 in
    rw (from.1, from.2) (appends_prefix_first _ _ (g.T.Target.target_line c.args.target.now) (encode_field (codes "type") (kind_name c.args.kind))
    c.in_err-write_target_line.ensures.appended)

pub returns-clause-appended : goal.returns-clause-appended
returns-clause-appended g c =
    rw (← c.kind_line.ensures)
    (appends_or_fails_append _ _ _ _ (g.T.Target.target_line c.args.target.now) c.kind_line.result.now c.in_ok-write_target_line.ensures.appended
    c.write_bytes.ensures.appended)

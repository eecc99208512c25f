-- If a step fails, a prefix of its part is written after the parts before it.
use Rattle.std.proofs.Common.{codes}
use Rattle.std.specs.List.{flat_map}
use Rattle.std.proofs.lemmas.Result.{err_from_is_err_and}
use Rattle.gixobj_hash.specs.Hash.{encode_id_hex}
use Rattle.gixobj_streams.proofs.Appends.{appends_prefix_first, appends_or_fails_append}
use Rattle.gixobj_hash.specs.FieldFormat.{encode_field}
use Rattle.gixobj_commit.proofs.commit.write.write_ids.Goals as goal

pub returns-in_err-trusted_header_id-clause-appended : goal.returns-in_err-trusted_header_id-clause-appended
returns-in_err-trusted_header_id-clause-appended g c =
    let from = err_from_is_err_and c.from_residual.result c.from_residual.ensures.1 in
    rw (from.1, from.2) (appends_prefix_first _ _ (encode_field (codes "tree") (encode_id_hex c.args.tree.now)) (flat_map g.T.Field.written c.args.parents.now)
    c.in_err-trusted_header_id.ensures.appended)

pub returns-clause-appended : goal.returns-clause-appended
returns-clause-appended g c =
    appends_or_fails_append _ _ _ _ (encode_field (codes "tree") (encode_id_hex c.args.tree.now)) (flat_map g.T.Field.written c.args.parents.now)
    c.in_ok-trusted_header_id.ensures.appended c.write_each.ensures.appended

-- If a step fails, a prefix of its part is written after the parts before it.
use Rattle.std.specs.List.{flat_map}
use Rattle.std.proofs.lemmas.Result.{err_from_is_err_and}
use Rattle.gixobj_streams.proofs.Appends.{appends_prefix_first, appends_or_fails_append}
use Rattle.gixobj_commit.specs.CommitWriting.{hex_parent, hex_tree}
use Rattle.gixobj_commit.proofs.commit.write.write_hex_ids.Goals as goal

pub returns-in_err-write_hex_tree-clause-appended : goal.returns-in_err-write_hex_tree-clause-appended
returns-in_err-write_hex_tree-clause-appended g c =
    let from = err_from_is_err_and c.from_residual.result c.from_residual.ensures.1 in
    rw (from.1, from.2) (appends_prefix_first _ _ (hex_tree c.args.tree) (flat_map hex_parent c.args.parents.now) c.in_err-write_hex_tree.ensures.appended)

pub returns-clause-appended : goal.returns-clause-appended
returns-clause-appended g c =
    appends_or_fails_append _ _ _ _ (hex_tree c.args.tree) (flat_map hex_parent c.args.parents.now) c.in_ok-write_hex_tree.ensures.appended
    c.write_each.ensures.appended

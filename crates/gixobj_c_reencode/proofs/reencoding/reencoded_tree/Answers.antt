-- The decoder's error says that the bytes are no tree, and the encoder's that a name is rejected.
use Rattle.gixobj_c_reencode.proofs.Reencoded.{failure_of_encoder, failure_of_tree_error, tree_allocates}
use Rattle.gixobj_c_reencode.proofs.reencoding.reencoded_tree.Goals as goal
use Rattle.gixobj_hash.specs.declared.kind.Kind.TheVariants as kind
use Rattle.gixobj_tree.specs.TreeViews.{tree_entries}
use Rattle.gixobj_tree.specs.TreeEncoding.{IsTreeEncodeError}

pub returns-in-Err-clause-error : goal.returns-in-Err-clause-error
returns-in-Err-clause-error c = failure_of_tree_error _ _ _ _ c.in-Err.ensures.error c.decoding_failure.ensures

pub returns-clause-error : goal.returns-clause-error
returns-clause-error c =
    let entries = tree_entries c.in-Ok.tree in
    failure_of_encoder c.args.hash kind.Tree c.args.bytes.now (IsTreeEncodeError entries) _ _ _ _ _
    (tree_allocates c.args.hash c.args.bytes.now entries _ _ _ c.in-Ok.ensures.found c.in-Err-write_to_vec.ensures.error)
    (λ rejected. (entries, c.in-Ok.ensures.found, rejected)) c.in-Err-write_to_vec.ensures.error c.encoding_failure.ensures

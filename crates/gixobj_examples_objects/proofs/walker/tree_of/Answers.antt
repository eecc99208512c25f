use Rattle.gixobj_examples_objects.proofs.Errors.{tree_id_of_commit, malformed_commit_of_error}
use Rattle.gixobj_examples_objects.proofs.walker.tree_of.Goals as goal

pub returns-clause-tree : goal.returns-clause-tree
returns-clause-tree c =
    tree_id_of_commit c.args.kind c.args.bytes.now c.tree_id.result
    (λ commit is. c.id_search_complete.ensures.tree c.args.kind c.args.bytes.now commit c.from_bytes.result c.tree_id.new.self c.tree_id.result is
    c.from_bytes.ensures c.tree_id.ensures)

pub returns-clause-error : goal.returns-clause-error
returns-clause-error c =
    malformed_commit_of_error c.args.kind c.args.bytes.now c.tree_id.result
    (λ commit is. c.id_search_complete.ensures.tree c.args.kind c.args.bytes.now commit c.from_bytes.result c.tree_id.new.self c.tree_id.result is
    c.from_bytes.ensures c.tree_id.ensures)

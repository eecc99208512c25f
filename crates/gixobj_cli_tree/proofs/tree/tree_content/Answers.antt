-- An error of a loose object is an error of a tree, and an object of another kind is one too.
use Rattle.std.proofs.lemmas.Result.{err_from_is_err_and}
use Rattle.gixobj_cli_tree.proofs.TreeErrors.{listed_tree_error_of_content}
use Rattle.gixobj_cli_tree.proofs.tree.tree_content.Goals as goal

pub returns-in_err-kind-clause-error : goal.returns-in_err-kind-clause-error
returns-in_err-kind-clause-error c =
    let made = err_from_is_err_and c.from_residual.result c.from_residual.ensures.1 in
    rw (made.1, made.2) (listed_tree_error_of_content _ c.in_err-kind.field-0.0 c.in_err-kind.ensures.error)

pub returns-in_default : goal.returns-in_default
returns-in_default c =
    let read = c.in_ok-kind in
    record {
      found = tt;
      error = record {
        kind = read.kind;
        content = read.content.now;
        object = read.ensures.found;
        other = c.in_default.not-Tree;
      };
    }

-- The errors of a list, over the streams themselves.
use Rattle.std.proofs.Common.{rules}
use Rattle.gixobj_cli_tree.proofs.TreeErrors.{is_unlisted_of_error}
use Rattle.gixobj_cli_tree.proofs.tree.list_read.Goals as goal

pub returns-clause-error : goal.returns-clause-error
returns-clause-error g c failed =
    is_unlisted_of_error _ _ _ _ _ _ _ _ _ _ _ (search rules) (search rules) (search rules) (λ same. search rules) (c.list.ensures.error failed)

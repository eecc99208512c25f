-- The stores have the stored trees.
use Rattle.gixobj_c_edit.proofs.Emitted.{start_error_of_root}
use Rattle.gixobj_c_edit.proofs.edits.start_of.Goals as goal

pub returns-in-Err-root_of-clause-error : goal.returns-in-Err-root_of-clause-error
returns-in-Err-root_of-clause-error c = start_error_of_root c.args.hash c.args.trees.now c.args.root.now c.in-Ok.given c.in-Err-root_of.failure _ _ _ _
    c.in-Ok.ensures.found c.in-Err-root_of.ensures.error c.given_failure-failure.ensures
    c.failed_with-in-Err-root_of.ensures.own_id
    c.failed_with-in-Err-root_of.ensures.number

-- An error of a loose object is an error of `show`.
use Rattle.std.proofs.Common.{refl}
use Rattle.std.proofs.lemmas.Result.{err_from_is_err_and}
use Rattle.gixobj_cli_show.proofs.Contents.{show_error_of_content}
use Rattle.gixobj_cli_show.proofs.show.show.Goals as goal

pub returns-in_err-kind-clause-error : goal.returns-in_err-kind-clause-error
returns-in_err-kind-clause-error c =
    let made = err_from_is_err_and c.from_residual.result c.from_residual.ensures.1 in
    rw (made.1, made.2) (show_error_of_content _ c.in_err-kind.field-0.0 c.in_err-kind.ensures.error)

pub returns-clause-found : goal.returns-clause-found
returns-clause-found c = (c.in_ok-kind.content.now, c.in_ok-kind.ensures.found, refl, c.compute_hash.ensures)

-- The bytes before the space are the name of the kind, and else the error has a copy of them.
use Rattle.std.proofs.Common.{ap, ◌∙◌, ◌∷◌, ◌++◌}
use Rattle.std.proofs.lemmas.Result.{err_from_is_err_and}
use Rattle.gixobj_hash.proofs.HeaderErrors.{header_error_of_name_error}
use Rattle.gixobj_hash.proofs.decode.decode_kind.Goals as goal

pub returns-in_err-kind-clause-error : goal.returns-in_err-kind-clause-error
returns-in_err-kind-clause-error c =
    let p = err_from_is_err_and c.from_residual.result c.from_residual.ensures.1 in
    rw (p.1, p.2) (header_error_of_name_error c.args.input.now c.in-Some.token.now c.in-Some.after.now _ c.in-Some.ensures.found c.in_err-kind.ensures.error)

pub returns-clause-found : goal.returns-clause-found
returns-clause-found c = c.in-Some.ensures.found.joined ∙ ap (λ it. it ++ 32 ∷ c.in-Some.after.now) c.in_ok-kind.ensures.found

-- A kind, a space, the size and the zero byte are a header.
use Rattle.gixobj_hash.proofs.HeaderErrors.{header_error_of_size_error, header_of_size}
use Rattle.std.proofs.lemmas.Result.{err_from_is_err_and}
use Rattle.gixobj_hash.proofs.decode.decode_size_part.Goals as goal

pub returns-in_err-size-clause-error : goal.returns-in_err-size-clause-error
returns-in_err-size-clause-error c =
    let p = err_from_is_err_and c.from_residual.result c.from_residual.ensures.1 in
    rw (p.1, p.2) (λ kind input joined.
    header_error_of_size_error input kind c.args.after.now c.in-Some.bytes.now _ _ joined c.in-Some.ensures.found c.in_err-size.ensures.error)

pub returns-clause-found : goal.returns-clause-found
returns-clause-found c = λ kind input joined.
    header_of_size input kind c.args.after.now c.in-Some.bytes.now _ c.in_ok-size.size joined c.in-Some.ensures.found c.in_ok-size.ensures.found

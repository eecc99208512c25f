-- The kind and the size after it are the parts of the header.
use Rattle.std.proofs.lemmas.Result.{err_from_is_err_and}
use Rattle.gixobj_hash.proofs.decode.decode_loose_header_parts.Goals as goal

pub returns-in_err-size-clause-error : goal.returns-in_err-size-clause-error
returns-in_err-size-clause-error c =
    let p = err_from_is_err_and c.from_residual-in_err-size.result c.from_residual-in_err-size.ensures.1 in
    rw (p.1, p.2) (c.in_err-size.ensures.error c.in_ok-kind.kind c.args.input.now c.in_ok-kind.ensures.found)

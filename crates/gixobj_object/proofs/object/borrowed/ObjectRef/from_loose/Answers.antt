-- The object decodes from the content, and an error of the content is an error of the object.
use Rattle.std.proofs.lemmas.Result.{err_from_is_err_and}
use Rattle.gixobj_object.proofs.Contents.{loose_object_error_of_header}
use Rattle.gixobj_object.proofs.object.borrowed.ObjectRef.from_loose.Goals as goal

pub returns-in_err-kind-clause-error : goal.returns-in_err-kind-clause-error
returns-in_err-kind-clause-error c =
    let p = err_from_is_err_and c.from_residual.result c.from_residual.ensures.1 in
    rw p.1 (loose_object_error_of_header c.args.hash_kind c.args.input.now c.in_err-kind.field-0.0 p.0 c.in_err-kind.ensures.error p.2)

pub returns-in_err-from_bytes-clause-error : goal.returns-in_err-from_bytes-clause-error
returns-in_err-from_bytes-clause-error c =
    let p = err_from_is_err_and c.from_residual-in_err-from_bytes.result c.from_residual-in_err-from_bytes.ensures.1 in
    let read = c.in_ok-kind in
    rw (p.1, p.2) (read.kind, read.content.now, read.ensures.found, c.in_err-from_bytes.ensures.error)

pub returns-clause-found : goal.returns-clause-found
returns-clause-found c =
    let read = c.in_ok-kind in
    (read.kind, read.content.now, read.ensures.found, c.in_ok-from_bytes.ensures.found)

-- The input was read to its end, and an error of `show` is one of the run.
use Rattle.std.proofs.lemmas.Result.{err_from_is_err_and}
use Rattle.gixobj_cli_show.proofs.Errors.{answer_error_of_show}
use Rattle.gixobj_cli_show.specs.Engine.{ReadsAll}
use Rattle.gixobj_cli_show.specs.Show.{IsShowError}
use Rattle.gixobj_cli_show.proofs.engine.answer.Goals as goal

pub returns-in_err-shown-clause-error : goal.returns-in_err-shown-clause-error
returns-in_err-shown-clause-error g c =
    let made = err_from_is_err_and c.from_residual-in_err-shown.result c.from_residual-in_err-shown.ensures.1 in
    let input = c.in_ok-bytes.bytes.items in
    let read : ReadsAll (g.S.Source.rest c.args.input.now) (g.S.Source.rest c.read_all.new.source) input =
    (c.in_ok-bytes.ensures.all, c.in_ok-bytes.ensures.end) in
    let rejected : IsShowError input c.in_err-shown.field-0.0 = rw (← c.as_slice.ensures.value) c.in_err-shown.ensures.error in
    rw (made.1, made.2) (answer_error_of_show _ _ _ _ _ _ c.in_err-shown.field-0.0 input (c.in-Some.hash, c.in-Some.ensures.found) read rejected)

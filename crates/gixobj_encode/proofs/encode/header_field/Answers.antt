-- The copy of a value with a newline failed to allocate.
use Rattle.std.proofs.Common.{[], refl, rules, inl, inr}
use Rattle.std.specs.Prelude.{Contains}
use Rattle.std.proofs.lemmas.Result.{err_from_is_err_and}
use Rattle.gixobj_streams.proofs.Appends.{appends_all_nil}
use Rattle.gixobj_encode.proofs.encode.header_field.Goals as goal

pub returns-in_err-value-clause-error : goal.returns-in_err-value-clause-error
returns-in_err-value-clause-error g c =
    let p = err_from_is_err_and c.from_residual.result c.from_residual.ensures.1 in
    let has : Contains c.args.value.now 10 = search rules in
    rw (p.1, p.2) (c.args.value.now, inl ([], (inr (has, refl), refl), appends_all_nil (g.S.Sink.view c.args.sink.now)))

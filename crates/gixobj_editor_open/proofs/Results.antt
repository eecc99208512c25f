-- An error that `?` returns; the proofs of calls that return early use it.
use Rattle.std.proofs.Common.{Result, Ok, Err}
use Rattle.std.specs.Prelude.{IfErr}
use Rattle.std.specs.Result.{IsErrAnd}

pub if_err_weaken : {X E : Type 0} (r : Result X E) (P Q : E → Type 0) → IsErrAnd r P → ((error : E) → P error → Q error) → IfErr r Q
if_err_weaken (Ok x) P Q h f = absurd h
if_err_weaken (Err error) P Q h f = f error h

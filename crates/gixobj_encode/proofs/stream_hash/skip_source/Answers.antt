-- A piece extends the prefix that was read, and an error of the missing bytes is an error of all.
use Rattle.std.proofs.Common.{◌∙◌, refl}
use Rattle.std.proofs.lemmas.Result.{err_from_is_err_and}
use Rattle.gixobj_encode.proofs.StreamReads.{skipping_complete, skipping_nil, skipping_step, skipping_error_is_stream_error}
use Rattle.gixobj_encode.proofs.stream_hash.skip_source.Goals as goal

pub loop-missing-init : goal.loop-missing-init
loop-missing-init g c = record { skipping = skipping_nil _ _; lasting = λ may. may; same_loan = refl }

pub loop-missing-preserved : goal.loop-missing-preserved
loop-missing-preserved g c =
    let before = c.loop-missing.invariant in
    let read = c.in_ok-count.ensures in
    record {
      skipping = skipping_step _ _ _ _ _ c.in_ok-count.count _ before.skipping read.consumed read.bound.1 read.count.1;
      lasting = λ may. before.lasting (read.stays_valid may);
      same_loan = read.same_loan ∙ before.same_loan;
    }

pub returns-in_err-count-clause-error : goal.returns-in_err-count-clause-error
returns-in_err-count-clause-error g c =
    let p = err_from_is_err_and c.from_residual.result c.from_residual.ensures.1 in
    rw (p.1, p.2) (skipping_error_is_stream_error _ _ _ _ _ _ _ _ c.loop-missing.invariant.skipping c.loop-missing.invariant.lasting
    (c.in_err-count.ensures).error)

pub returns-clause-remaining : goal.returns-clause-remaining
returns-clause-remaining g c = skipping_complete _ _ _ _ c.loop-missing.invariant.skipping c.loop-missing-test.false

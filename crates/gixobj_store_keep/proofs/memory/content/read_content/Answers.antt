-- A piece extends the content, and an error of the missing bytes is an error of all.
use Rattle.std.proofs.Common.{◌∙◌, refl}
use Rattle.std.proofs.lemmas.Result.{err_from_is_err_and}
use Rattle.gixobj_store_keep.proofs.ContentReads.{content_error_after_piece, reads_exactly_of_none_missing, reads_so_far_append, reads_so_far_nil}
use Rattle.gixobj_store_keep.proofs.ContentReads.{reads_up_to_with_piece}
use Rattle.gixobj_store_keep.proofs.memory.content.read_content.Goals as goal

pub loop-missing-init : goal.loop-missing-init
loop-missing-init g c = record { reads = reads_so_far_nil _ _ _ c.new-content.ensures.items; lasting = λ may. may; same_loan = refl }

pub loop-missing-preserved : goal.loop-missing-preserved
loop-missing-preserved g c =
    let before = c.loop-missing.invariant in
    let read = c.in_ok-count.ensures in
    record {
      reads = reads_so_far_append _ _ _ _ _ c.in_ok-count.count _ _ _ before.reads read.consumed read.bound.1 read.count.1
          c.in_ok-extend_from_slice.ensures.items;
      lasting = λ may. before.lasting (read.stays_valid may);
      same_loan = read.same_loan ∙ before.same_loan;
    }

pub returns-in_err-count-clause-error : goal.returns-in_err-count-clause-error
returns-in_err-count-clause-error g c =
    let p = err_from_is_err_and c.from_residual.result c.from_residual.ensures.1 in
    rw (p.1, p.2) (content_error_after_piece _ _ _ _ _ _ _ _ _ c.loop-missing.invariant.reads c.loop-missing.invariant.lasting
    (c.in_err-count.ensures).error)

pub returns-clause-content : goal.returns-clause-content
returns-clause-content g c = reads_exactly_of_none_missing _ _ _ _ _ c.loop-missing.invariant.reads c.loop-missing-test.false

pub returns-in_err-extend_from_slice-clause-error : goal.returns-in_err-extend_from_slice-clause-error
returns-in_err-extend_from_slice-clause-error g c =
    let p = err_from_is_err_and c.from_residual-in_err-extend_from_slice.result c.from_residual-in_err-extend_from_slice.ensures.1 in
    let before = c.loop-missing.invariant in
    let read = c.in_ok-count.ensures in
    rw (p.1, p.2) (reads_up_to_with_piece _ _ _ _ _ c.in_ok-count.count _ _ before.reads read.consumed read.bound.1 read.count.1)

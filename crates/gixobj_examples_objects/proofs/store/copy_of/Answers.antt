use Rattle.std.proofs.Common.{ℕ, List, ◌++◌, ap, subst, sym, ◌∙◌}
use Rattle.gix_object.specs.Commit.{CommitLines}
use Rattle.gix_object.specs.CommitViews.{commit_lines}
use Rattle.gix_object.specs.CommitWriting.{IsCommitLinesError, encode_commit, in_lower_case}
use Rattle.gix_object.specs.Streams.{list_view}
use Rattle.gix_object.specs.Writing.{RejectsNothing}
use Rattle.gixobj_examples_objects.proofs.Errors.{fails_for_room_of_read, fails_for_room_of_write}
use Rattle.gixobj_examples_objects.proofs.store.copy_of.Goals as goal

pub returns-in-Err-clause-error : goal.returns-in-Err-clause-error
returns-in-Err-clause-error c = λ commit is some. fails_for_room_of_read c.args.kind c.args.bytes.now commit c.in-Err.error c.in-Err.ensures.error is

pub returns-in-Ok-write_to_vec-clause-same_bytes : goal.returns-in-Ok-write_to_vec-clause-same_bytes
returns-in-Ok-write_to_vec-clause-same_bytes c = λ commit is tree parents.
    let same = c.commit_decodes_uniquely.ensures c.args.kind c.args.bytes.now commit (commit_lines c.in-Ok.commit) is c.in-Ok.ensures.found in
    let bytes = c.commit_reencodes_identically.ensures.same_bytes c.args.kind c.args.bytes.now commit is tree parents in
    c.in-Ok-write_to_vec.ensures.written ∙ ap (λ (it : List ℕ). it ++ encode_commit (in_lower_case (commit_lines c.in-Ok.commit))) c.new-copy.ensures.items
    ∙ ap (λ (it : CommitLines). encode_commit (in_lower_case it)) (sym same) ∙ bytes

pub returns-clause-error : goal.returns-clause-error
returns-clause-error c = λ commit is some.
    let same = c.commit_decodes_uniquely.ensures c.args.kind c.args.bytes.now commit (commit_lines c.in-Ok.commit) is c.in-Ok.ensures.found in
    let nothing = subst (λ (it : CommitLines). RejectsNothing (IsCommitLinesError (in_lower_case it))) same
    (c.commit_reencodes_identically.ensures.no_error c.args.kind c.args.bytes.now commit is some) in
    let fails = c.write_error_implies_sink_error.ensures (list_view c.new-copy.result) (list_view c.write_to_vec.new.out) c.in-Err-write_to_vec.error nothing
    c.in-Err-write_to_vec.ensures.error in
    fails_for_room_of_write (list_view c.new-copy.result) c.write_to_vec.new.out (encode_commit (in_lower_case (commit_lines c.in-Ok.commit)))
    c.in-Err-write_to_vec.error fails

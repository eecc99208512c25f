-- The error of an encoding is that of a writer to an empty list.
use Rattle.std.proofs.Common.{◌≡◌, ◌-◌, Err, arith, rules}
use Rattle.std.specs.Prelude.{vec_capacity, vec_len}
use Rattle.gixobj_streams.proofs.Errors.{encoding_error_of_list}
use Rattle.gixobj_commit.specs.CommitViews.{owned_commit_lines}
use Rattle.gixobj_commit.specs.CommitWriting.{IsOwnedCommitError, encode_commit}
use Rattle.gixobj_commit.proofs.commit.sign.payload_of.Goals as goal

pub returns-in_err-write_to_vec-clause-error : goal.returns-in_err-write_to_vec-clause-error
returns-in_err-write_to_vec-clause-error c =
    let commit = c.args.commit.now in
    let payload = c.new-payload.result in
    let full : vec_capacity payload - vec_len payload ≡ 0 = omega arith in
    let is : c.from_residual.result ≡ Err c.in_err-write_to_vec.field-0.0 = search rules in
    rw is (encoding_error_of_list (IsOwnedCommitError commit) (encode_commit (owned_commit_lines commit)) payload.items
    (vec_capacity payload - vec_len payload) c.write_to_vec.new.out c.in_err-write_to_vec.field-0.0 c.new-payload.ensures.items full
    c.in_err-write_to_vec.ensures.error)

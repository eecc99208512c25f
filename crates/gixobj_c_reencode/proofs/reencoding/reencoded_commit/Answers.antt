-- The decoder's error says that the bytes are no commit, and the encoder's that a value is rejected.
use Rattle.std.proofs.Common.{inr}
use Rattle.gixobj_c_reencode.proofs.Reencoded.{failure_of_commit_error, failure_of_encoder}
use Rattle.gixobj_c_reencode.proofs.reencoding.reencoded_commit.Goals as goal
use Rattle.gixobj_c_reencode.specs.Reencoding.{Allocates}
use Rattle.gixobj_commit.specs.CommitViews.{commit_lines}
use Rattle.gixobj_commit.specs.CommitWriting.{IsCommitLinesError, in_lower_case}
use Rattle.gixobj_hash.specs.declared.kind.Kind.TheVariants as kind

pub returns-in-Err-clause-error : goal.returns-in-Err-clause-error
returns-in-Err-clause-error c = failure_of_commit_error _ _ _ _ c.in-Err.ensures.error c.decoding_failure.ensures

pub returns-clause-error : goal.returns-clause-error
returns-clause-error c =
    let commit = commit_lines c.in-Ok.commit in
    let allocates : Allocates c.args.hash kind.Commit c.args.bytes.now = inr (commit, c.in-Ok.ensures.found) in
    failure_of_encoder c.args.hash kind.Commit c.args.bytes.now (IsCommitLinesError (in_lower_case commit)) _ _ _ _ _ allocates
    (λ rejected. (commit, c.in-Ok.ensures.found, rejected)) c.in-Err-write_to_vec.ensures.error c.encoding_failure.ensures

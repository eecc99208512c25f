use Rattle.std.proofs.Common.{◌++◌, ◌∙◌, List, ℕ, ap}
use Rattle.gixobj_streams.proofs.Errors.{fails_as_sink_of_error}
use Rattle.gixobj_codec.proofs.Reencoded.{commit_reencodes_identically, decoded_commit_rejects_nothing}
use Rattle.gixobj_commit.specs.CommitViews.{commit_lines}
use Rattle.gixobj_commit.specs.CommitWriting.{IsCommitLinesError, encode_commit, in_lower_case}
use Rattle.gixobj_codec.proofs.laws.commits.commit_decode_encode_agree.Goals as goal

pub returns-in-Ok-clause-same_bytes : goal.returns-in-Ok-clause-same_bytes
returns-in-Ok-clause-same_bytes c = λ kind content it tree parents.
    c.in-Ok.ensures.written ∙ ap (λ (bytes : List ℕ). c.args.out.now.items ++ bytes)
    (commit_reencodes_identically kind content (commit_lines c.args.commit.now) it tree parents)

pub returns-in-Err-clause-fails_as_sink : goal.returns-in-Err-clause-fails_as_sink
returns-in-Err-clause-fails_as_sink c = λ kind content it some.
    fails_as_sink_of_error (IsCommitLinesError (in_lower_case (commit_lines c.args.commit.now))) _ _
    (encode_commit (in_lower_case (commit_lines c.args.commit.now)))
    c.in-Err.error
    (decoded_commit_rejects_nothing kind content (commit_lines c.args.commit.now) it some) c.in-Err.ensures.error

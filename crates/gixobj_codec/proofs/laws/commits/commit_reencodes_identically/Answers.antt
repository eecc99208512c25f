use Rattle.gixobj_codec.proofs.Reencoded as law
use Rattle.gixobj_codec.proofs.laws.commits.commit_reencodes_identically.Goals as goal

pub returns-clause-same_bytes : goal.returns-clause-same_bytes
returns-clause-same_bytes c = law.commit_reencodes_identically

pub returns-clause-no_error : goal.returns-clause-no_error
returns-clause-no_error c = law.decoded_commit_rejects_nothing

use Rattle.gixobj_tokens.proofs.CommitRuns.{token_run_unique, decodes_tokens_of_run}
use Rattle.gixobj_tokens.proofs.laws.tokens.commit_runs_decode_uniquely.Goals as goal

pub returns-clause-one_run : goal.returns-clause-one_run
returns-clause-one_run c = token_run_unique

pub returns-clause-decodes : goal.returns-clause-decodes
returns-clause-decodes c = decodes_tokens_of_run

use Rattle.gixobj_tokens.proofs.CommitLanguage.{commit_of_tokens_exists, yields_tokens_of_commit}
use Rattle.gixobj_tokens.proofs.laws.readers.commit_readers_agree.Goals as goal

pub returns-clause-yields : goal.returns-clause-yields
returns-clause-yields c = yields_tokens_of_commit

pub returns-clause-decodes : goal.returns-clause-decodes
returns-clause-decodes c = commit_of_tokens_exists

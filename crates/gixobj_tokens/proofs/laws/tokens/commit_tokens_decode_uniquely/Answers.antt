use Rattle.gixobj_tokens.proofs.CommitTokens.{commit_token_unique}
use Rattle.gixobj_tokens.proofs.laws.tokens.commit_tokens_decode_uniquely.Goals as goal

pub returns : goal.returns
returns c = commit_token_unique

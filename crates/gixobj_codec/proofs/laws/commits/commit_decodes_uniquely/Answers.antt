use Rattle.gixobj_grammar.proofs.EntireCommits.{commit_unique}
use Rattle.gixobj_codec.proofs.laws.commits.commit_decodes_uniquely.Goals as goal

pub returns : goal.returns
returns c = commit_unique

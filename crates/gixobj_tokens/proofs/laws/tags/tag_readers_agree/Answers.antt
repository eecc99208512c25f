use Rattle.gixobj_tokens.proofs.TagLanguage.{tag_of_tokens_exists, yields_tokens_of_tag}
use Rattle.gixobj_tokens.proofs.laws.tags.tag_readers_agree.Goals as goal

pub returns-clause-yields : goal.returns-clause-yields
returns-clause-yields c = yields_tokens_of_tag

pub returns-clause-decodes : goal.returns-clause-decodes
returns-clause-decodes c = tag_of_tokens_exists

use Rattle.gixobj_tokens.proofs.TagsFound.{ends_after_name, its_tagger, its_target}
use Rattle.gixobj_tokens.proofs.laws.tags.tag_part_search_complete.Goals as goal

pub returns-clause-target : goal.returns-clause-target
returns-clause-target c = λ kind bytes tag reader result is start gives. its_target kind bytes tag reader is start result gives

pub returns-clause-tagger : goal.returns-clause-tagger
returns-clause-tagger c = λ kind bytes tag reader tagger is start finds. its_tagger kind bytes tag reader is start tagger finds

pub returns-clause-no_token : goal.returns-clause-no_token
returns-clause-no_token c = λ kind bytes tag reader ending is start lacks. ends_after_name kind bytes tag reader is start ending lacks

use Rattle.gixobj_codec.proofs.MergetagsFound.{all_consumed_are_tags, all_listed}
use Rattle.gixobj_grammar.specs.RemainingHeaders.{remaining_owned_headers}
use Rattle.gixobj_codec.proofs.laws.headers.owned_mergetag_search_complete.Goals as goal

pub returns-clause-yielded : goal.returns-clause-yielded
returns-clause-yielded c = all_consumed_are_tags remaining_owned_headers

pub returns-clause-tags : goal.returns-clause-tags
returns-clause-tags c = all_listed remaining_owned_headers

use Rattle.gixobj_tokens.proofs.CommitsFound.{has_author, has_committer, its_author, its_committer}
use Rattle.gixobj_tokens.proofs.laws.readers.actor_search_complete.Goals as goal

pub returns-clause-author : goal.returns-clause-author
returns-clause-author c = λ kind content commit reader actor is start finds. its_author kind content commit reader is start actor finds

pub returns-clause-has_author : goal.returns-clause-has_author
returns-clause-has_author c = has_author

pub returns-clause-committer : goal.returns-clause-committer
returns-clause-committer c = λ kind content commit reader actor is start finds. its_committer kind content commit reader is start actor finds

pub returns-clause-has_committer : goal.returns-clause-has_committer
returns-clause-has_committer c = has_committer

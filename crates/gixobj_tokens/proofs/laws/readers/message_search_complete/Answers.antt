use Rattle.gixobj_tokens.proofs.CommitsFound.{has_message, its_message}
use Rattle.gixobj_tokens.proofs.laws.readers.message_search_complete.Goals as goal

pub returns-clause-message : goal.returns-clause-message
returns-clause-message c = λ kind content commit reader message is start finds. its_message kind content commit reader is start message finds

pub returns-clause-has_message : goal.returns-clause-has_message
returns-clause-has_message c = has_message

use Rattle.gixobj_tokens.proofs.CommitsFound.{its_tree}
use Rattle.gixobj_tokens.proofs.ParentsFound.{yields_parents_of_commit}
use Rattle.gixobj_tokens.proofs.laws.readers.id_search_complete.Goals as goal

pub returns-clause-tree : goal.returns-clause-tree
returns-clause-tree c = λ kind content commit reader after result is start gives. its_tree kind content commit reader is start after result gives

pub returns-clause-parents : goal.returns-clause-parents
returns-clause-parents c = yields_parents_of_commit

use Rattle.gix_object.specs.Edits.{IsNoTree, IsNotLookedUp}
use Rattle.gixobj_examples_audits.proofs.OneOpening.{opens_unique}
use Rattle.gixobj_examples_audits.proofs.laws.opening_has_one_outcome.Goals as goal

pub returns-clause-openings : goal.returns-clause-openings
returns-clause-openings c = λ trees path dirs others new new' ids ids' same one other.
    let it = opens_unique IsNoTree trees path dirs others new new' ids ids' same one other in (it.dirs, it.ids)

pub returns-clause-leaf_openings : goal.returns-clause-leaf_openings
returns-clause-leaf_openings c = λ trees path dirs others new new' ids ids' same one other.
    let it = opens_unique IsNotLookedUp trees path dirs others new new' ids ids' same one other in (it.dirs, it.ids)

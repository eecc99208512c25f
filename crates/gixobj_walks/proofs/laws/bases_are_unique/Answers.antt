-- Both lists have the same commits.
use Rattle.gixobj_walks.specs.Named.{graph_of}
use Rattle.gixobj_walks.proofs.NewestLists.{same_newest}
use Rattle.gixobj_walks.proofs.WalkLists.{functional_of_function}
use Rattle.gixobj_walks.proofs.laws.bases_are_unique.Goals as goal

pub returns : goal.returns
returns c = λ commits one other ids others bases first other_bases other_first.
    same_newest (graph_of commits) (functional_of_function commits) ids others first other_first
    (λ id. (
      (λ has. (other_bases.exact id).1 ((bases.exact id).0 has)),
      (λ has. (bases.exact id).1 ((other_bases.exact id).0 has)),
    ))

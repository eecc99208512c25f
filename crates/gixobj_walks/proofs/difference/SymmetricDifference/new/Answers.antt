-- Both commits have numbers, and no commit is read.
use Rattle.gixobj_walks.proofs.Searches.{searching_begun}
use Rattle.gixobj_walks.proofs.difference.SymmetricDifference.new.Goals as goal

pub invariant_of-result : goal.invariant_of-result
invariant_of-result c = searching_begun _ _ _ _ c.args.one c.args.other _ c.in_ok-known.ensures.left c.in_ok-known.ensures.right
    c.in_ok-known.ensures.kept

use Rattle.std.proofs.Common.{◌≡◌, ◌++◌, length, map}
use Rattle.gixobj_walks.proofs.newest.ids_of_dated.Given as goal

-- the ids of the commits that are taken out are in the list
abbrev pub invariant-loop-commit : goal.invariant-loop-commit
invariant-loop-commit l = l.ids.items ++ map (λ commit. commit.id) l.dated.keys ≡ map (λ commit. commit.id) l.fn.dated.keys

abbrev pub decreases-loop-commit : goal.decreases-loop-commit
decreases-loop-commit l = length l.dated.keys

-- How many commits only one of two commits reaches (git-rev-list, `--left-right --count A...B`).
use Rattle.std.specs.Prelude.{◌≡◌, ◌≤◌, ℕ, Bool, List, [], ◌∷◌, length}
use Rattle.gixobj_walks_graph.specs.Graph.{Graph}
use Rattle.gixobj_walks_marks.specs.Chosen.{IsChosen, ListsBelow}
use Rattle.gixobj_walks_marks.specs.Settled.{IsSettledWalk}

-- what is not read changes nothing of what one of the commits reaches and the other doesn't
pub record AreSettledApart {V : Type 0} (R : Graph V) (one other : V) : Type 0 where
  pub left : IsSettledWalk R (one ∷ []) (other ∷ [])
  pub right : IsSettledWalk R (other ∷ []) (one ∷ [])

-- the number of those below a bound that the left side has, and the right side doesn't
pub record HasChosenCount (left right : List Bool) (bound count : ℕ) : Type 0 where
  pub numbers : List ℕ
  pub lists : ListsBelow (IsChosen left right) bound numbers
  pub count_is : count ≡ length numbers
  pub maximum : count ≤ bound

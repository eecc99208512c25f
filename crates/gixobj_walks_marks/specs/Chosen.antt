-- What marks of two sides say of commits, and lists of numbers.
use Rattle.std.specs.Prelude.{◌≡◌, ◌⊎◌, ◌↔◌, ◌<◌, ℕ, Bool, List, Contains, length}
use Rattle.std.specs.List.Sorted.{IsStrictlyIncreasing}
use Rattle.gixobj_walks_graph.specs.Graph.{Graph, HasParent, IsRead, Reaches}
use Rattle.gixobj_walks_graph.specs.Numbered.{IsMarked, Nodes, graph_at}
use Rattle.gixobj_walks_marks.specs.Readings.{IsUnread}
use Rattle.gixobj_walks_marks.specs.Settled.{IsBottom, IsCandidate}

-- the left side has the number, and the right side doesn't
abbrev pub IsChosen : List Bool → List Bool → ℕ → Type 0
IsChosen left right number = IsMarked left number × (¬ IsMarked right number)

-- both sides have the number
abbrev pub IsShared : List Bool → List Bool → ℕ → Type 0
IsShared left right number = IsMarked left number × IsMarked right number

-- an unread commit that either side has
abbrev pub IsWantedAt : Nodes → List Bool → List Bool → ℕ → Type 0
IsWantedAt nodes left right number = IsUnread nodes number × (IsMarked left number ⊎ IsMarked right number)

-- each unread commit that either side has is marked
abbrev pub AreWantedMarked : Nodes → List Bool → List Bool → List Bool → Type 0
AreWantedMarked nodes left right marked = (number : ℕ) → IsWantedAt nodes left right number → IsMarked marked number

-- the commit reaches each unread one that either side has
abbrev pub ReachesWanted : Nodes → List Bool → List Bool → ℕ → Type 0
ReachesWanted nodes left right from = (number : ℕ) → IsWantedAt nodes left right number
    → Reaches (graph_at nodes) from number

-- a chosen commit that is read, with no chosen parent
pub record IsBottomAt (nodes : Nodes) (left right : List Bool) (number : ℕ) : Type 0 where
  pub read : IsRead (graph_at nodes) number
  pub chosen : IsChosen left right number
  pub last : (parent : ℕ) → HasParent (graph_at nodes) number parent → ¬ IsChosen left right parent

-- exactly the numbers below a bound for which `P` holds, ascending, each once
pub record ListsBelow (P : ℕ → Type 0) (bound : ℕ) (numbers : List ℕ) : Type 0 where
  pub exact : (number : ℕ) → Contains numbers number ↔ ((number < bound) × P number)
  pub ascending : IsStrictlyIncreasing numbers

-- exactly the numbers below a bound for which `P` holds are marked
pub record MarksBelow (P : ℕ → Type 0) (bound : ℕ) (marked : List Bool) : Type 0 where
  pub length_is : length marked ≡ bound
  pub exact : (number : ℕ) → IsMarked marked number ↔ ((number < bound) × P number)

-- a commit of both sides that is no parent of another one
pub record IsCandidateAt (nodes : Nodes) (left right : List Bool) (number : ℕ) : Type 0 where
  pub shared : IsShared left right number
  pub best : (child : ℕ) → IsShared left right child → ¬ HasParent (graph_at nodes) child number

-- a marked commit below a bound has this parent
abbrev pub HasMarkedChild : Nodes → List Bool → ℕ → ℕ → Type 0
HasMarkedChild nodes marked bound number = (child : ℕ) × (child < bound) × IsMarked marked child
    × HasParent (graph_at nodes) child number

-- these numbers are marked too
pub record AddsMarks (P : ℕ → Type 0) (old new : List Bool) : Type 0 where
  pub length_is : length new ≡ length old
  pub exact : (number : ℕ) → IsMarked new number ↔ (IsMarked old number ⊎ P number)

-- more than 16 commits are bottoms
pub record HasManyBottoms (R : Graph ℕ) (tips hidden : List ℕ) : Type 0 where
  pub numbers : List ℕ
  pub bottoms : (number : ℕ) → Contains numbers number → IsBottom R tips hidden number
  pub ascending : IsStrictlyIncreasing numbers
  pub many : 16 < length numbers

-- more than 16 commits are candidates
pub record HasManyCandidates (R : Graph ℕ) (one other : ℕ) : Type 0 where
  pub numbers : List ℕ
  pub candidates : (number : ℕ) → Contains numbers number → IsCandidate R one other number
  pub ascending : IsStrictlyIncreasing numbers
  pub many : 16 < length numbers

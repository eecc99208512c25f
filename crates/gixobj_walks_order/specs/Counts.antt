-- Counts of children, as the code that lists commits keeps them.
use Rattle.std.specs.Prelude.{Contains, ◌⊎◌, ◌≡◌, ◌+◌, ◌<◌, ◌&&◌, ◌==◌, ℕ, zero, suc, Bool, true, false, not, List, []}
use Rattle.std.specs.Prelude.{◌∷◌, Option, Some, None, if◌then◌else◌, length, nat_eq, slice_get, slice_index}
use Rattle.std.specs.Prelude.{slice_index_or}
use Rattle.std.specs.List.{AllByRecursion, list_any}
use Rattle.gixobj_walks_graph.specs.Graph.{IsRead, NodeView}
use Rattle.gixobj_walks_graph.specs.Numbered.{IsMarked, Nodes, graph_at, parents_at}

-- ---- what is known of a commit by its number

-- the seconds of a commit that is read, and 0 of another
abbrev pub seconds_in : Option (Option (NodeView ℕ)) → ℕ
seconds_in None = 0
seconds_in (Some None) = 0
seconds_in (Some (Some node)) = node.seconds

-- the seconds of a commit, 0 if it isn't read
abbrev pub seconds_at : Nodes → ℕ → ℕ
seconds_at nodes number = seconds_in (slice_get nodes number)

-- each of these commits is read
abbrev pub AreRead : Nodes → List ℕ → Type 0
AreRead nodes numbers = AllByRecursion (λ number. IsRead (graph_at nodes) number) numbers

-- each number is below the bound
abbrev pub AreBelow : ℕ → List ℕ → Type 0
AreBelow bound numbers = (k : ℕ) → k < length numbers → slice_index numbers k < bound

-- ---- counts

-- whether these parents have the commit
abbrev pub is_named : ℕ → List ℕ → Bool
is_named number parents = list_any (nat_eq number) parents

-- whether the number is marked
abbrev pub is_marked : List Bool → ℕ → Bool
is_marked marked number = slice_index_or marked number false

-- the pending commits are the selected ones that aren't listed
pub record IsPending (selected pending : List Bool) (listed : List ℕ) : Type 0 where
  pub cases : (k : ℕ) → IsMarked selected k
      → ((is_marked pending k ≡ true) × (¬ Contains listed k)) ⊎ ((is_marked pending k ≡ false) × Contains listed k)
  pub only : (k : ℕ) → is_marked pending k ≡ true → IsMarked selected k

-- how many of the first `n` commits are pending and have the parent
abbrev pub pending_children : Nodes → List Bool → ℕ → ℕ → ℕ
pending_children nodes pending parent zero = 0
pending_children nodes pending parent (suc n) = pending_children nodes pending parent n
    + (if is_marked pending n && is_named parent (parents_at nodes n) then 1 else 0)

-- ---- what becomes ready

-- of the parents of the commit that is being listed, the selected ones with no other pending child, each at its last
-- mention
abbrev pub freed_parents : List Bool → List ℕ → List ℕ → List ℕ
freed_parents selected counts [] = []
freed_parents selected counts (parent ∷ parents) =
    if is_marked selected parent && (slice_index counts parent == 1) && not (is_named parent parents)
    then parent ∷ freed_parents selected counts parents
    else freed_parents selected counts parents

-- the selected tips with no pending child, each at its first mention
abbrev pub first_tips : List Bool → List ℕ → List ℕ → List ℕ → List ℕ
first_tips selected counts seen [] = []
first_tips selected counts seen (tip ∷ tips) =
    if is_marked selected tip && (slice_index counts tip == 0) && not (is_named tip seen)
    then tip ∷ first_tips selected counts (tip ∷ seen) tips
    else first_tips selected counts (tip ∷ seen) tips

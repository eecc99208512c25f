-- How marks go from a commit to what it reaches: a stack has the marked commits whose parents are still to be marked.
use Rattle.std.specs.Prelude.{◌≡◌, ◌⊎◌, ◌↔◌, ◌+◌, ℕ, Bool, not, List, Contains, count_by, length}
use Rattle.gixobj_walks_graph.specs.Graph.{IsReachedFrom}
use Rattle.gixobj_walks_graph.specs.Numbered.{IsMarked, Nodes, graph_at}

-- how many commits are not marked
abbrev pub unmarked : List Bool → ℕ
unmarked marked = count_by not marked

-- these numbers are marked, and those that were not marked before are pushed on the stack
pub record Spreads (numbers : List ℕ) (old new : List Bool) (old_stack new_stack : List ℕ) : Type 0 where
  pub marks : (number : ℕ) → IsMarked new number ↔ (IsMarked old number ⊎ Contains numbers number)
  pub waits : (number : ℕ) → IsMarked new number → IsMarked old number ⊎ Contains new_stack number
  pub keeps : (number : ℕ) → Contains old_stack number → Contains new_stack number
  pub adds : (number : ℕ) → Contains new_stack number → Contains old_stack number ⊎ IsMarked new number
  pub once : unmarked new + length new_stack ≡ unmarked old + length old_stack

-- exactly what was marked, and what these commits reach, is marked
abbrev pub MarksReached : Nodes → List ℕ → List Bool → List Bool → Type 0
MarksReached nodes starts old new = (number : ℕ) → IsMarked new number
    ↔ (IsMarked old number ⊎ IsReachedFrom (graph_at nodes) starts number)

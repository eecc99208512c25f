-- The queue of the commits that are known and not read yet.
use Rattle.std.specs.Prelude.{◌≡◌, ◌==◌, ℕ, List, ◌∷◌, Option, Some, None, count_by, slice_get}
use Rattle.std.specs.Option.{option_map}
use Rattle.std.specs.List.Sorted.{IsPermutation}
use Rattle.gixobj_walks_graph.specs.Graph.{NodeView}
use Rattle.gixobj_walks_graph.specs.Numbered.{Nodes}
use Rattle.gixobj_walks_marks.specs.declared.queue.Unread.{Unread}

-- the number of the first commit of the queue
abbrev pub next_of : List Unread → Option ℕ
next_of queue = option_map (λ unread. unread.number) (slice_get queue 0)

-- how often the queue has this number
abbrev pub times : ℕ → List Unread → ℕ
times number queue = count_by (λ unread. unread.number == number) queue

-- how often a queue has a known commit: once if it isn't read
abbrev pub times_wanted : Option (Option (NodeView ℕ)) → ℕ
times_wanted (Some None) = 1
times_wanted _ = 0

-- the queue has each commit that is not read once, and nothing else
abbrev pub HasUnread : Nodes → List Unread → Type 0
HasUnread nodes queue = (number : ℕ) → times number queue ≡ times_wanted (slice_get nodes number)

-- a commit with this number is taken out of the queue
pub record IsTakenOut (number : ℕ) (old new : List Unread) : Type 0 where
  pub unread : Unread
  pub named : unread.number ≡ number
  pub taken : IsPermutation old (unread ∷ new)

-- What holds while commits are listed: those that wait are ready, not listed and each once, and of each listed commit
-- each selected child is listed.
use Rattle.std.specs.Prelude.{◌≡◌, ◌+◌, ◌<◌, ◌++◌, ◌∷◌, [], ℕ, Bool, List, Contains, length, reverse, slice_index}
use Rattle.gixobj_walks_graph.specs.Graph.{AreOnce, Graph}
use Rattle.gixobj_walks_graph.specs.Listing.{AreFirstReady, AreInsertedByDate, IsReady, Lists, Waiting}
use Rattle.gixobj_walks_graph.specs.Numbered.{IsMarked, Nodes, graph_at}
use Rattle.gixobj_walks_graph.specs.declared.order.Order.{Order}
use Rattle.gixobj_walks_order.specs.Counts.{AreBelow, IsPending, pending_children}
use Rattle.gixobj_walks_order.specs.Queues.{AreKeys, numbers_of, waiting_of}
use Rattle.gixobj_walks_order.specs.declared.queue.Queue.{Queue}
use Rattle.gixobj_walks_order.specs.declared.state.State.{State}

-- the commits that wait
abbrev pub all_of : {V : Type 0} → Waiting V → List V
all_of waiting = waiting.dated ++ waiting.found

-- the commits that wait, and those that are listed, are ready and each once, and none is both
pub record IsProgress {V : Type 0} (G : Graph V) (Selected : V → Type 0) (listed : List V) (waiting : Waiting V)
    : Type 0 where
  pub ready : (id : V) → Contains (all_of waiting) id → IsReady G Selected listed id
  pub unlisted : (id : V) → Contains (all_of waiting) id → ¬ Contains listed id
  pub once : AreOnce (all_of waiting)
  pub listed_ready : (id : V) → Contains listed id → IsReady G Selected listed id
  pub listed_once : AreOnce listed

-- each ready commit is listed or waits
abbrev pub HasEachReady : {V : Type 0} → Graph V → (V → Type 0) → List V → Waiting V → Type 0
HasEachReady {V} G Selected listed waiting = (id : V) → IsReady G Selected listed id → (¬ Contains listed id)
    → Contains (all_of waiting) id

-- the state of a list that is being made
pub record IsStateAt (nodes : Nodes) (selected : List Bool) (counts stamps : List ℕ) (pending : List Bool)
    (queue : Queue) (ids : List ℕ) : Type 0 where
  pub counts_len : length counts ≡ length nodes
  pub stamps_len : length stamps ≡ length nodes
  pub pending_len : length pending ≡ length nodes
  pub counted : (parent : ℕ) → parent < length nodes
      → slice_index counts parent ≡ pending_children nodes pending parent (length nodes)
  pub unseen : AreBelow (length ids + 1) stamps
  pub keys : AreKeys nodes (length ids + length (all_of (waiting_of queue))) queue.dated
  pub is_pending : IsPending selected pending (reverse ids)
  pub progress : IsProgress (graph_at nodes) (IsMarked selected) (reverse ids) (waiting_of queue)
  pub complete : HasEachReady (graph_at nodes) (IsMarked selected) (reverse ids) (waiting_of queue)

-- the invariant of a list that is being made
abbrev pub IsState : Nodes → List Bool → State → Type 0
IsState nodes selected state =
    IsStateAt nodes selected state.counts.items state.stamps.items state.pending.items state.queue state.ids.items

-- the next commit is listed
pub record ListsNext (nodes : Nodes) (selected : List Bool) (order : Order) (old new : State) : Type 0 where
  pub number : ℕ
  pub ids : new.ids.items ≡ old.ids.items ++ number ∷ []
  pub lists : Lists (graph_at nodes) order (IsMarked selected) (reverse old.ids.items) (waiting_of old.queue) number
      (waiting_of new.queue)

-- no commit waits, and the state is the same
pub record IsLast (old new : State) : Type 0 where
  pub dated : old.queue.dated.keys ≡ []
  pub found : old.queue.found.items ≡ []
  pub ids : new.ids.items ≡ old.ids.items
  pub pending : new.pending.items ≡ old.pending.items
  pub waiting : waiting_of new.queue ≡ waiting_of old.queue

-- before the first commit is listed, the tips that are ready wait
pub record IsFirst (nodes : Nodes) (selected : List Bool) (tips : List ℕ) (state : State) : Type 0 where
  pub ready : List ℕ
  pub first_ready : AreFirstReady (graph_at nodes) (IsMarked selected) [] tips ready
  pub by_date : AreInsertedByDate (graph_at nodes) ready [] (numbers_of state.queue.dated)
  pub found : state.queue.found.items ≡ []
  pub ids : state.ids.items ≡ []

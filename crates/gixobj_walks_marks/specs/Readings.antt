-- What a walk has read and marked.
use Rattle.std.specs.Prelude.{◌≡◌, ◌⊎◌, ◌↔◌, ◌++◌, ℕ, Bool, List, ◌∷◌, Option, Some, None, count_by, length, replicate}
use Rattle.std.specs.Prelude.{slice_get}
use Rattle.std.specs.Option.{is_some}
use Rattle.gixobj_walks_graph.specs.Graph.{IsReachedFrom}
use Rattle.gixobj_walks_graph.specs.Numbered.{AreParentsKnown, IsClosed, IsMarked, Nodes, graph_at}
use Rattle.gixobj_walks_marks.specs.Marks.{HasMarks}
use Rattle.gixobj_walks_marks.specs.Queue.{HasUnread}
use Rattle.gixobj_walks_marks.specs.declared.queue.Unread.{Unread}

-- the commits that are known, which of them the starts of either side reach, and which is to be read next
pub record ReadingView : Type 0 where
  pub nodes : Nodes
  pub left : List Bool
  pub right : List Bool
  pub next : Option ℕ

-- how many commits are read
abbrev pub reads : Nodes → ℕ
reads nodes = count_by is_some nodes

-- the commit is known, and not read yet
abbrev pub IsUnread : Nodes → ℕ → Type 0
IsUnread nodes number = slice_get nodes number ≡ Some None

-- what is kept: each parent is known, the marks are closed, and the queue has the commits that are not read
pub record IsReading (nodes : Nodes) (left right : List Bool) (queue : List Unread) (read : ℕ) : Type 0 where
  pub known : AreParentsKnown nodes
  pub left_length : length left ≡ length nodes
  pub right_length : length right ≡ length nodes
  pub left_closed : IsClosed nodes left
  pub right_closed : IsClosed nodes right
  pub queued : HasUnread nodes queue
  pub counted : read ≡ reads nodes

-- the marks that some starts have are those of the same starts afterwards
abbrev pub KeepsMarks : Nodes → List Bool → Nodes → List Bool → Type 0
KeepsMarks old_nodes old nodes new = (starts : List ℕ) → HasMarks old_nodes starts old → HasMarks nodes starts new

-- the marks that some starts have are those of the same starts and this one afterwards
abbrev pub AddsStart : Nodes → ℕ → List Bool → List Bool → Type 0
AddsStart nodes start old new = (starts : List ℕ) → HasMarks nodes starts old → HasMarks nodes (start ∷ starts) new

-- if the commit is marked, its mark passes to its parents and what they reach
abbrev pub PassesMark : Nodes → ℕ → List ℕ → List Bool → List Bool → Type 0
PassesMark nodes number parents old new = (other : ℕ) → IsMarked new other
    ↔ (IsMarked old other ⊎ (IsMarked old number × IsReachedFrom (graph_at nodes) parents other))

-- the next commit is taken out of the queue, and commits are added that are not read: what is kept holds but for it
pub record ReplacesNext (number added : ℕ) (old_nodes : Nodes) (old_left old_right : List Bool) (nodes : Nodes)
    (left right : List Bool) (queue : List Unread) (read : ℕ) : Type 0 where
  pub unread : Unread
  pub named : unread.number ≡ number
  pub reading : IsReading nodes left right (unread ∷ queue) read
  pub nodes_are : nodes ≡ old_nodes ++ replicate added None
  pub left_marks : KeepsMarks old_nodes old_left nodes left
  pub right_marks : KeepsMarks old_nodes old_right nodes right
  pub reads_are : reads nodes ≡ reads old_nodes

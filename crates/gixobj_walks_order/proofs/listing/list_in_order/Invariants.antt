use Rattle.std.proofs.Common.{ℕ, List, ◌++◌, ◌-◌, length, reverse}
use Rattle.gixobj_walks_graph.specs.Listing.{IsListing, ListsAll}
use Rattle.gixobj_walks_graph.specs.Numbered.{IsMarked, graph_at}
use Rattle.gixobj_walks_order.specs.Progress.{IsState}
use Rattle.gixobj_walks_order.specs.Queues.{waiting_of}
use Rattle.gixobj_walks_order.proofs.listing.list_in_order.Given as goal

abbrev pub invariant-loop-state : goal.invariant-loop-state
invariant-loop-state l = record {
  is_state : IsState l.nodes l.selected l.state;
  run : (rest : List ℕ)
      → ListsAll (graph_at l.nodes) l.order (IsMarked l.selected) (reverse l.state.ids.items) (waiting_of l.state.queue) rest
      → IsListing (graph_at l.nodes) l.order (IsMarked l.selected) l.tips (l.state.ids.items ++ rest);
}

abbrev pub decreases-loop-state : goal.decreases-loop-state
decreases-loop-state l = length l.nodes - length l.state.ids.items

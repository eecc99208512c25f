use Rattle.std.proofs.Common.{◌≡◌, ◌+◌, ℕ, List, drop}
use Rattle.gixobj_walks_graph.specs.Listing.{AreInsertedByDate}
use Rattle.gixobj_walks_graph.specs.Numbered.{graph_at}
use Rattle.gixobj_walks_order.specs.Counts.{AreRead}
use Rattle.gixobj_walks_order.specs.Queues.{AreKeys, numbers_of}
use Rattle.gixobj_walks_order.proofs.queue.insert_all_by_date.Given as goal

abbrev pub invariant-loop-number : goal.invariant-loop-number
invariant-loop-number l = record {
  next : l.next ≡ l.joined + l.number-index;
  keys : AreKeys l.nodes l.next l.dated;
  read : AreRead l.nodes (drop l.number-index l.ready);
  inserted : (new : List ℕ)
      → AreInsertedByDate (graph_at l.nodes) (drop l.number-index l.ready) (numbers_of l.dated) new
      → AreInsertedByDate (graph_at l.nodes) l.ready (numbers_of l.initial.dated) new;
}

use Rattle.gixobj_walks_graph.specs.Numbered.{IsMarked, graph_at}
use Rattle.gixobj_walks_order.proofs.Lines.{listing_follows_lines}
use Rattle.gixobj_walks_order.proofs.States.{graph_at_is_functional}
use Rattle.gixobj_walks_order.proofs.laws.topological_listing_follows_lines.Goals as goal

pub returns : goal.returns
returns c = λ nodes selected tips ids listing.
    listing_follows_lines (graph_at nodes) (IsMarked selected) (graph_at_is_functional nodes) tips ids listing

use Rattle.gixobj_walks_graph.specs.Numbered.{IsMarked, graph_at}
use Rattle.gixobj_walks_order.proofs.Listings as listings
use Rattle.gixobj_walks_order.proofs.laws.listing_is_once.Goals as goal

pub returns : goal.returns
returns c = λ nodes order selected tips ids listing.
    listings.listing_is_once (graph_at nodes) order (IsMarked selected) tips ids listing

use Rattle.gixobj_walks_graph.specs.Numbered.{IsMarked, graph_at}
use Rattle.gixobj_walks_order.proofs.NewestFirst.{listing_is_newest_first}
use Rattle.gixobj_walks_order.proofs.laws.listing_by_date_is_newest_first.Goals as goal

pub returns : goal.returns
returns c = λ nodes selected tips ids listing. listing_is_newest_first (graph_at nodes) (IsMarked selected) tips ids listing

use Rattle.gixobj_walks_graph.specs.Numbered.{IsMarked, graph_at}
use Rattle.gixobj_walks_order.proofs.Unique as unique
use Rattle.gixobj_walks_order.proofs.States.{graph_at_is_functional}
use Rattle.gixobj_walks_order.proofs.laws.listing_is_unique.Goals as goal

pub returns : goal.returns
returns c = λ nodes order selected tips ids others first second.
    unique.listing_is_unique (graph_at nodes) (graph_at_is_functional nodes) order (IsMarked selected) tips ids others first second

use Rattle.gixobj_walks_known.proofs.Marks.{entries_of_known, known_from_entries}
use Rattle.gixobj_walks_known.proofs.graph.is_known_graph.Goals as goal

pub returns : goal.returns
returns c = (
  (λ is. known_from_entries c.args.nodes.now (c.are_known.ensures.0 is)),
  (λ known. c.are_known.ensures.1 (entries_of_known c.args.nodes.now known)),
)

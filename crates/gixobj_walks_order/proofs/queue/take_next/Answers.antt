use Rattle.std.proofs.Common.{[], ◌∷◌}
use Rattle.gixobj_walks_order.proofs.queue.take_next.Goals as goal

pub returns-clause-keys : goal.returns-clause-keys
returns-clause-keys c = (c.in_ok-key.key ∷ [], c.in_ok-key.ensures.removal)

use Rattle.std.proofs.Common.{refl, rules}
use Rattle.gixobj_store.proofs.tree.TreeRefIterIterator.next.Goals as goal

pub returns-in-None-clause-steps : goal.returns-in-None-clause-steps
returns-in-None-clause-steps c = (search rules, λ e after rest has. c.in-None.ensures.none e rest has, refl, refl)

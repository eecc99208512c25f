use Rattle.gixobj_grammar.proofs.ParentHexes.{other_parents_are_hex_of_their_kind}
use Rattle.gixobj_grammar.proofs.parents.ParentsIterator.next.Goals as goal

pub invariant_of-self : goal.invariant_of-self
invariant_of-self c = record { are_ids = other_parents_are_hex_of_their_kind c.args.self.now.rest.now c.in-len1-up.len_at_least c.args.self.now.are_ids }

-- Nothing is wanted if a test said so, or if everything that is known is read.
use Rattle.std.proofs.Common.{subst}
use Rattle.gixobj_walks.specs.Difference.{AreSettledApart}
use Rattle.gixobj_walks.specs.Search.{SearchView, searched_graph}
use Rattle.gixobj_walks.proofs.Machines.{none_weaker}
use Rattle.gixobj_walks.proofs.Differences.{apart_of_all_read}
use Rattle.gixobj_walks.proofs.difference.SymmetricDifference.next_wanted.Goals as goal

pub returns-then-self-clause-settled : goal.returns-then-self-clause-settled
returns-then-self-clause-settled c = subst (λ (s : SearchView). AreSettledApart (searched_graph s) s.one s.other) c.self.view_is
    (c.self.invariant.end c.if-self.true)

pub returns-clause-settled : goal.returns-clause-settled
returns-clause-settled c = none_weaker c.next_unread.result _ _
    (λ read. subst (λ (s : SearchView). AreSettledApart (searched_graph s) s.one s.other) c.self.view_is
    (apart_of_all_read c.self.inside.known.names c.self.inside.known.reading c.self.inside.one c.self.inside.other
    c.self.inside.is_settled _ c.self.invariant read)) c.next_unread.ensures.none

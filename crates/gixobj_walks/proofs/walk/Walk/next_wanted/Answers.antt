-- Nothing is wanted if a test said so, or if everything that is known is read.
use Rattle.std.proofs.Common.{subst}
use Rattle.gixobj_walks_marks.specs.Settled.{IsSettledWalk}
use Rattle.gixobj_walks.specs.Machine.{WalkView, given_graph}
use Rattle.gixobj_walks.proofs.Machines.{none_weaker, settled_of_all_read, settled_of_test}
use Rattle.gixobj_walks.proofs.walk.Walk.next_wanted.Goals as goal

pub returns-then-self-clause-settled : goal.returns-then-self-clause-settled
returns-then-self-clause-settled c = subst (λ (w : WalkView). IsSettledWalk (given_graph w) w.tips w.hidden) c.self.view_is
    (settled_of_test c.self.inside.known.names c.self.inside.known.reading c.self.inside.tips.items c.self.inside.hidden.items
    c.self.inside.is_settled c.self.invariant c.if-self.true)

pub returns-clause-settled : goal.returns-clause-settled
returns-clause-settled c = none_weaker c.next_unread.result _ _
    (λ read. subst (λ (w : WalkView). IsSettledWalk (given_graph w) w.tips w.hidden) c.self.view_is
    (settled_of_all_read c.self.inside.known.names c.self.inside.known.reading c.self.inside.tips.items c.self.inside.hidden.items
    c.self.inside.is_settled c.self.invariant read)) c.next_unread.ensures.none

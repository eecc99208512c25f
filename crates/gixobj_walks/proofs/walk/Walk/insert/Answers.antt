-- The commit is read, and the names stay.
use Rattle.std.proofs.Common.{◌≡◌, ◌∙◌, ◌⊎◌, ◌↔◌, ap, subst}
use Rattle.gixobj_walks.specs.Machine.{WalkView}
use Rattle.gixobj_walks.proofs.Machines.{names_of_extends, walking_settled, wanted_unread}
use Rattle.gixobj_walks.specs.Named.{AreOfEither, named_graph}
use Rattle.gixobj_walks.proofs.walk.Walk.insert.Goals as goal

pub invariant_of-result : goal.invariant_of-result
invariant_of-result c =
    let kept = c.in_ok-known.ensures.kept c.self.inside.tips.items c.self.inside.hidden.items c.self.inside.is_settled c.self.invariant in
    walking_settled c.in_ok-known.known.names c.in_ok-known.known.reading c.self.inside.tips.items c.self.inside.hidden.items kept
    c.in_ok-is_settled.is_settled (c.in_ok-is_settled.ensures c.self.inside.tips.items c.self.inside.hidden.items)

pub returns-clause-tips : goal.returns-clause-tips
returns-clause-tips c = names_of_extends c.self.inside.known.names c.in_ok-known.known.names c.in_ok-known.ensures.names
    c.self.inside.tips.items c.self.invariant.tips_known ∙ ap (λ (w : WalkView). w.tips) c.self.view_is

pub returns-clause-hidden : goal.returns-clause-hidden
returns-clause-hidden c = names_of_extends c.self.inside.known.names c.in_ok-known.known.names c.in_ok-known.ensures.names
    c.self.inside.hidden.items c.self.invariant.hidden_known ∙ ap (λ (w : WalkView). w.hidden) c.self.view_is

pub returns-clause-given : goal.returns-clause-given
returns-clause-given c = λ id commit node wanted.
    let it = wanted_unread c.self.inside.is_settled c.self.inside.known.names c.self.inside.known.reading.next commit
    (ap (λ (w : WalkView). w.wanted) c.self.view_is ∙ wanted) in
    subst (λ (w : WalkView). named_graph c.in_ok-known.known.names c.in_ok-known.known.reading.nodes id node
    ↔ ((named_graph w.ids w.nodes id node)
    ⊎ ((id ≡ commit) × (node ≡ record { parents = c.args.parents.now; seconds = c.args.seconds })))) c.self.view_is
    (c.in_ok-known.ensures.given id commit node it)

pub returns-clause-known : goal.returns-clause-known
returns-clause-known c = subst (λ (w : WalkView). AreOfEither c.in_ok-known.known.names w.ids c.args.parents.now) c.self.view_is
    c.in_ok-known.ensures.known

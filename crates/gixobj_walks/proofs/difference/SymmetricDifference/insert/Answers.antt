-- The commit is read, and the two commits stay.
use Rattle.std.proofs.Common.{◌≡◌, ◌∙◌, ◌⊎◌, ◌↔◌, ap, subst}
use Rattle.gixobj_walks.specs.Named.{named_graph}
use Rattle.gixobj_walks.specs.Search.{SearchView}
use Rattle.gixobj_walks.proofs.Differences.{apart_end}
use Rattle.gixobj_walks.proofs.Machines.{wanted_unread}
use Rattle.gixobj_walks.proofs.Searches.{searching_given}
use Rattle.gixobj_walks.proofs.difference.SymmetricDifference.insert.Goals as goal

pub invariant_of-result : goal.invariant_of-result
invariant_of-result c = searching_given c.self.inside.known.names c.in_ok-known.known.names c.self.inside.known.reading
    c.in_ok-known.known.reading c.self.inside.one c.self.inside.other c.self.inside.is_settled c.in_ok-is_settled.is_settled _ _
    c.in_ok-known.ensures.names c.in_ok-known.ensures.kept c.self.invariant
    (apart_end c.in_ok-known.known.names c.in_ok-known.known.reading c.self.inside.one c.self.inside.other c.in_ok-is_settled.is_settled
    c.in_ok-is_settled.ensures)

pub returns-clause-given : goal.returns-clause-given
returns-clause-given c = λ id commit node wanted.
    let it = wanted_unread c.self.inside.is_settled c.self.inside.known.names c.self.inside.known.reading.next commit
    (ap (λ (s : SearchView). s.wanted) c.self.view_is ∙ wanted) in
    subst (λ (s : SearchView). named_graph c.in_ok-known.known.names c.in_ok-known.known.reading.nodes id node
    ↔ ((named_graph s.ids s.nodes id node)
    ⊎ ((id ≡ commit) × (node ≡ record { parents = c.args.parents.now; seconds = c.args.seconds })))) c.self.view_is
    (c.in_ok-known.ensures.given id commit node it)

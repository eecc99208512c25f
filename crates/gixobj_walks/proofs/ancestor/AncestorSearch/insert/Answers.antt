-- The walk reads the commit.
use Rattle.std.proofs.Common.{◌≡◌, ◌∙◌, ◌⊎◌, ◌↔◌, ap, subst}
use Rattle.gixobj_walks.specs.Named.{named_graph}
use Rattle.gixobj_walks.specs.Search.{SearchView}
use Rattle.gixobj_walks.proofs.ancestor.AncestorSearch.insert.Goals as goal

pub returns-clause-given : goal.returns-clause-given
returns-clause-given c = λ id commit node wanted.
    subst (λ (s : SearchView). named_graph c.in_ok-walk.walk.ids c.in_ok-walk.walk.nodes id node
    ↔ ((named_graph s.ids s.nodes id node)
    ⊎ ((id ≡ commit) × (node ≡ record { parents = c.args.parents.now; seconds = c.args.seconds })))) c.self.view_is
    (c.in_ok-walk.ensures.given id commit node (ap (λ (s : SearchView). s.wanted) c.self.view_is ∙ wanted))

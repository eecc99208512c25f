-- Each side is counted by its marks.
use Rattle.std.proofs.Common.{Bool, [], ◌∷◌, List, length, subst, sym}
use Rattle.gixobj_walks_graph.specs.Graph.{HasCount, IsIncluded}
use Rattle.gixobj_walks_graph.specs.Walks.{IsSelected}
use Rattle.gixobj_walks.specs.Difference.{AreSettledApart, HasChosenCount}
use Rattle.gixobj_walks.specs.Named.{graph_of}
use Rattle.gixobj_walks.specs.Search.{SearchView, searched_graph}
use Rattle.gixobj_walks.proofs.Differences.{count_left, count_right}
use Rattle.gixobj_walks.proofs.difference.SymmetricDifference.count.Goals as goal

pub returns-clause-left : goal.returns-clause-left
returns-clause-left c = λ commits included acyclic.
    let end = subst (λ (s : SearchView). AreSettledApart (searched_graph s) s.one s.other) (sym c.self.view_is) c.in-None.ensures.settled in
    subst (λ (s : SearchView). HasCount (IsSelected (graph_of commits) (s.one ∷ []) (s.other ∷ [])) c.count_chosen.result) c.self.view_is
    (count_left c.self.inside.known.names c.self.inside.known.reading c.self.inside.one c.self.inside.other c.self.inside.is_settled _
    c.self.invariant end commits
    (subst (λ (s : SearchView). IsIncluded (searched_graph s) (graph_of commits)) (sym c.self.view_is) included) acyclic
    c.left-left.ensures.length c.right-right.ensures.length c.count_chosen.result
    (subst (λ (left : List Bool). HasChosenCount left c.self.inside.known.reading.right (length left) c.count_chosen.result)
    c.left-left.ensures.left
    (subst (λ right. HasChosenCount c.left-left.result.now right (length c.left-left.result.now) c.count_chosen.result)
    c.right-right.ensures.right c.count_chosen.ensures)))

pub returns-clause-right : goal.returns-clause-right
returns-clause-right c = λ commits included acyclic.
    let end = subst (λ (s : SearchView). AreSettledApart (searched_graph s) s.one s.other) (sym c.self.view_is) c.in-None.ensures.settled in
    subst (λ (s : SearchView). HasCount (IsSelected (graph_of commits) (s.other ∷ []) (s.one ∷ [])) c.count_chosen-2.result) c.self.view_is
    (count_right c.self.inside.known.names c.self.inside.known.reading c.self.inside.one c.self.inside.other c.self.inside.is_settled _
    c.self.invariant end commits
    (subst (λ (s : SearchView). IsIncluded (searched_graph s) (graph_of commits)) (sym c.self.view_is) included) acyclic
    c.left-left.ensures.length c.right-right.ensures.length c.count_chosen-2.result
    (subst (λ (right : List Bool). HasChosenCount right c.self.inside.known.reading.left (length right) c.count_chosen-2.result)
    c.right-right.ensures.right
    (subst (λ left. HasChosenCount c.right-right.result.now left (length c.right-right.result.now) c.count_chosen-2.result)
    c.left-left.ensures.left c.count_chosen-2.ensures)))

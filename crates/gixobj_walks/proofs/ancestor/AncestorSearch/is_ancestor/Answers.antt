-- The ancestor is the tip of the walk, and the descendant its hidden commit.
use Rattle.std.proofs.Common.{◌↔◌, IsTrue, subst, sym}
use Rattle.gixobj_walks_graph.specs.Graph.{IsIncluded, IsReachedFrom, Reaches}
use Rattle.gixobj_walks.specs.Named.{graph_of}
use Rattle.gixobj_walks.specs.Search.{SearchView, searched_graph}
use Rattle.gixobj_walks.proofs.BaseEnds.{one_reaches, reached_from_one}
use Rattle.gixobj_walks.proofs.ancestor.AncestorSearch.is_ancestor.Goals as goal

pub returns : goal.returns
returns c = record {
  exact = λ commits included acyclic.
      let same = c.is_hidden.ensures.exact commits
      (subst (λ (s : SearchView). IsIncluded (searched_graph s) (graph_of commits)) (sym c.self.view_is) included) acyclic in
      let hidden = c.self.invariant.1 in
      subst (λ (s : SearchView). IsTrue c.is_hidden.result ↔ Reaches (graph_of commits) s.other s.one) c.self.view_is (
        (λ is. one_reaches (graph_of commits) c.self.inside.descendant c.self.inside.ancestor
            (subst (λ starts. IsReachedFrom (graph_of commits) starts c.self.inside.ancestor) hidden (same.0 is))),
        (λ reaches. same.1 (subst (λ starts. IsReachedFrom (graph_of commits) starts c.self.inside.ancestor) (sym hidden)
            (reached_from_one (graph_of commits) c.self.inside.descendant c.self.inside.ancestor reaches))),
      );
}

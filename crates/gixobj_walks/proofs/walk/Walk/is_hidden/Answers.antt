-- A tip has a number, and is hidden if its number has the mark of the hidden commits.
use Rattle.std.proofs.Common.{◌↔◌, Contains, IsTrue, subst, sym}
use Rattle.gixobj_walks_graph.specs.Graph.{IsIncluded, IsReachedFrom}
use Rattle.gixobj_walks_marks.specs.Settled.{IsSettledWalk}
use Rattle.gixobj_walks.specs.Machine.{WalkView, given_graph}
use Rattle.gixobj_walks.specs.Named.{graph_of}
use Rattle.gixobj_walks.proofs.Machines.{number_of_name}
use Rattle.gixobj_walks.proofs.WalkLists.{hidden_in_each}
use Rattle.gixobj_walks.proofs.walk.Walk.is_hidden.Goals as goal

pub returns-in-Some : goal.returns-in-Some
returns-in-Some c = record {
  exact = λ commits included acyclic.
      let end = subst (λ (w : WalkView). IsSettledWalk (given_graph w) w.tips w.hidden) (sym c.self.view_is) c.in-None.ensures.settled in
      let tip = subst (λ (w : WalkView). Contains w.tips c.args.tip.now) (sym c.self.view_is) c.requires.tip in
      let same = hidden_in_each c.self.inside.known.names c.self.inside.known.reading c.self.inside.tips.items c.self.inside.hidden.items
      c.self.inside.is_settled c.self.invariant end commits
      (subst (λ (w : WalkView). IsIncluded (given_graph w) (graph_of commits)) (sym c.self.view_is) included) acyclic
      c.in-Some.number c.args.tip.now c.in-Some.ensures.found tip in
      subst (λ (w : WalkView). IsTrue c.is_right.result ↔ IsReachedFrom (graph_of commits) w.hidden c.args.tip.now) c.self.view_is
      ((λ is. same.0 (c.is_right.ensures.0 is)), (λ reached. c.is_right.ensures.1 (same.1 reached)));
}

pub returns-in-None-number_of : goal.returns-in-None-number_of
returns-in-None-number_of c =
    let tip = subst (λ (w : WalkView). Contains w.tips c.args.tip.now) (sym c.self.view_is) c.requires.tip in
    let it = number_of_name c.self.inside.known.names c.self.inside.tips.items c.self.invariant.tips_known c.args.tip.now tip in
    absurd (c.in-None-number_of.ensures.found it.0 it.1)

-- Merge bases of the commits that are read are those of each graph with these commits, if everything is read.
use Rattle.std.proofs.Common.{◌↔◌, [], ◌∷◌}
use Rattle.gixobj_walks_graph.specs.Bases.{IsCommon, IsMergeBase}
use Rattle.gixobj_walks_graph.specs.Graph.{Graph, IsFunctional, IsIncluded, IsReachedFrom, Reaches}
use Rattle.gixobj_walks_marks.specs.Settled.{IsCandidate, IsComplete}
use Rattle.gixobj_walks_marks.proofs.Ends.{complete_is_exact}
use Rattle.gixobj_walks_marks.proofs.Marked.{one_contained, one_contains}
use Rattle.gixobj_walks_marks.proofs.Paths.{ancestor_has_child, includes_parent, read_has_parent, reaches_itself, reaches_transitively, step_reaches}
use Rattle.std.proofs.Common.{subst, sym}

pub reached_from_one : {V : Type 0} (G : Graph V) (start id : V) → Reaches G start id → IsReachedFrom G (start ∷ []) id
reached_from_one G start id path = (start, one_contains start, path)

pub one_reaches : {V : Type 0} (G : Graph V) (start id : V) → IsReachedFrom G (start ∷ []) id → Reaches G start id
one_reaches {V} G start id reached = subst (λ (v : V). Reaches G v id) (sym (one_contained start reached.0 reached.1)) reached.2

module _ {V : Type 0} (R G : Graph V) (one other : V) (included : IsIncluded R G) (functional : IsFunctional G)
    (complete_one : IsComplete R (one ∷ [])) (complete_other : IsComplete R (other ∷ [])) where
  common_in_larger : (id : V) → IsCommon R one other id → IsCommon G one other id
  common_in_larger id common = record {
    from_one = one_reaches G one id ((complete_is_exact R G (one ∷ []) included functional complete_one id).0
        (reached_from_one R one id common.from_one));
    from_other = one_reaches G other id ((complete_is_exact R G (other ∷ []) included functional complete_other id).0
        (reached_from_one R other id common.from_other));
  }

  common_in_smaller : (id : V) → IsCommon G one other id → IsCommon R one other id
  common_in_smaller id common = record {
    from_one = one_reaches R one id ((complete_is_exact R G (one ∷ []) included functional complete_one id).1
        (reached_from_one G one id common.from_one));
    from_other = one_reaches R other id ((complete_is_exact R G (other ∷ []) included functional complete_other id).1
        (reached_from_one G other id common.from_other));
  }

  pub bases_of_complete : (id : V) → IsCandidate R one other id ↔ IsMergeBase G one other id
  bases_of_complete id = (
    (λ is. record {
      common = common_in_larger id is.common;
      best = λ better common path.
          let last = ancestor_has_child G path.0 better id path.1 in
          let child : IsCommon G one other last.0 = record {
            from_one = reaches_transitively G one better last.0 common.from_one last.1;
            from_other = reaches_transitively G other better last.0 common.from_other last.1;
          } in
          let small = common_in_smaller last.0 child in
          is.best last.0 small (read_has_parent R G included functional last.0 id
          (complete_one last.0 (reached_from_one R one last.0 small.from_one)) last.2);
    }),
    (λ is. record {
      common = common_in_smaller id is.common;
      best = λ child common edge. is.best child (common_in_larger child common)
          (step_reaches G child id id (includes_parent R G included child id edge) (reaches_itself G id));
    }),
  )

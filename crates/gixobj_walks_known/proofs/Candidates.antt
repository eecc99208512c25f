-- Candidates for merge bases are merge bases, where each commit is read.
use Rattle.std.proofs.Common.{◌≢◌, ◌↔◌, ◌<◌, ℕ, Bool, List, [], ◌∷◌, Contains, Result, Ok, Err, IfOk, Vec, Global, arith, ◌≡◌, ◌∙◌, zero, suc, ◌+◌}
use Rattle.std.proofs.Common.{get_or, length, subst, add-one}
use Rattle.std.proofs.lemmas.List.{get_or_default}
use Rattle.std.specs.List.Sorted.{IsStrictlyIncreasing}
use Rattle.gixobj_walks_graph.specs.Bases.{AreMergeBases}
use Rattle.gixobj_walks_graph.specs.Graph.{AreOnce}
use Rattle.gixobj_walks_graph.specs.Numbered.{Nodes, graph_at}
use Rattle.gixobj_walks_marks.specs.Marks.{HasMarks}
use Rattle.gixobj_walks_marks.specs.Settled.{IsCandidate}
use Rattle.gixobj_walks_marks.proofs.Ends.{candidate_is_base}
use Rattle.gixobj_walks_marks.proofs.Marked.{from_each_contained}

-- of numbers that ascend, the first is less than the others
first_is_less : (x : ℕ) (xs : List ℕ) → IsStrictlyIncreasing (x ∷ xs) → (k : ℕ) → k < length xs → x < get_or xs k 0
first_is_less x xs ascending zero less = ascending 0 (omega (arith, less))
first_is_less x xs ascending (suc k) less =
    let before = first_is_less x xs ascending k (omega (arith, less)) in
    omega (arith, before, next k less)
  where
    next : (k : ℕ) → suc k < length xs → get_or xs k 0 < get_or xs (suc k) 0
    next k less = subst (λ n. get_or xs k 0 < get_or (x ∷ xs) n 0) (add-one (suc k))
        (ascending (suc k) (omega (arith, less)))

-- the others ascend too
others_ascend : (x : ℕ) (xs : List ℕ) → IsStrictlyIncreasing (x ∷ xs) → IsStrictlyIncreasing xs
others_ascend x xs ascending k less =
    let same : suc k + 1 ≡ suc (k + 1) = omega arith in
    subst (λ n. get_or xs k 0 < get_or (x ∷ xs) n 0) same (ascending (suc k) (omega (arith, less)))

-- what ascends has each number once
once_ascending : (ids : List ℕ) → IsStrictlyIncreasing ids → AreOnce ids
once_ascending [] ascending = tt
once_ascending (x ∷ xs) ascending = (
  from_each_contained (λ y. x ≢ y) xs (λ y has same.
      let less = first_is_less x xs ascending has.0 has.1 in
      let here : get_or xs has.0 0 ≡ y = get_or_default xs has.0 0 y has.1 ∙ has.2 in
      omega (arith, less, here, same)),
  once_ascending xs (others_ascend x xs ascending),
)

-- a list of the candidates has exactly the merge bases, each once
pub bases_of_candidates : {E : Type 0} (nodes : Nodes) (one other : ℕ) (left right : List Bool)
    → HasMarks nodes (one ∷ []) left → HasMarks nodes (other ∷ []) right → (outcome : Result (Vec ℕ Global) E)
    → IfOk outcome (λ found. (first second : ℕ) → HasMarks nodes (first ∷ []) left → HasMarks nodes (second ∷ []) right
    → (number : ℕ) → Contains found.items number ↔ IsCandidate (graph_at nodes) first second number)
    → IfOk outcome (λ found. IsStrictlyIncreasing found.items)
    → IfOk outcome (λ found. AreMergeBases (graph_at nodes) one other found.items)
bases_of_candidates nodes one other left right on_left on_right (Err error) exact ascending = tt
bases_of_candidates nodes one other left right on_left on_right (Ok found) exact ascending = record {
  exact = λ id.
      let candidate = exact one other on_left on_right id in
      let best = candidate_is_base (graph_at nodes) one other id in (
        (λ has. best.0 (candidate.0 has)),
        (λ is. candidate.1 (best.1 is)),
      );
  once = once_ascending found.items ascending;
}

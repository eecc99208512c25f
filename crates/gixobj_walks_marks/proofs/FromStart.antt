-- Marks from a start on.
use Rattle.std.proofs.Common.{◌+◌, ◌<◌, ℕ, suc, Bool, List, sym, subst, length, drop, get_or, drop-cons, add-one}
use Rattle.gixobj_walks_graph.specs.Numbered.{Nodes}
use Rattle.gixobj_walks_marks.specs.Marks.{HasMarks}
use Rattle.gixobj_walks_marks.specs.Readings.{AddsStart}

-- the start at the index is marked after those that follow it
pub marks_from_start : (nodes : Nodes) (starts : List ℕ) (old new : List Bool) (index : ℕ) → index < length starts
    → AddsStart nodes (get_or starts index 0) old new → HasMarks nodes (drop (index + 1) starts) old
    → HasMarks nodes (drop index starts) new
marks_from_start nodes starts old new index inside adds has =
    subst (λ it. HasMarks nodes it new) (sym (drop-cons starts index 0 inside))
    (adds (drop (suc index) starts) (subst (λ n. HasMarks nodes (drop n starts) old) (add-one index) has))

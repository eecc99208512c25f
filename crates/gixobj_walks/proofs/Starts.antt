-- The starts of a walk: they are added without marks, and marked one after the other, the last one first.
use Rattle.std.proofs.Common.{◌≡◌, ◌∙◌, ◌++◌, ℕ, zero, suc, ◌+◌, ◌<◌, Bool, false, List, [], ◌∷◌, drop, get_or, replicate, sym, ap, subst, length, arith}
use Rattle.std.proofs.Common.{drop-cons, add-one}
use Rattle.std.proofs.lemmas.List.{append_assoc, drop_all, length-replicate, replicate-append-replicate}
use Rattle.std.proofs.lemmas.List.Elements.{All-from_recursion}
use Rattle.std.specs.Prelude.{IsTrue, Option, Some, None, slice_get}
use Rattle.std.specs.List.{AllByRecursion}
use Rattle.gixobj_hash.specs.declared.hash.object_id.ObjectId.{ObjectId}
use Rattle.gixobj_walks_graph.specs.Graph.{NodeView}
use Rattle.gixobj_walks_graph.specs.Numbered.{Nodes, graph_at}
use Rattle.gixobj_walks_marks.specs.Marks.{HasMarks}
use Rattle.gixobj_walks_marks.specs.Readings.{AddsStart, ReadingView}
use Rattle.gixobj_walks.specs.Machine.{IsWalking}
use Rattle.gixobj_walks.specs.Named.{AreDistinct, named_graph}

-- no start is marked at the end of the list
pub marks_of_end : (nodes : Nodes) (starts : List ℕ) (marked : List Bool) (index : ℕ) → index ≡ length starts → HasMarks nodes [] marked
    → HasMarks nodes (drop index starts) marked
marks_of_end nodes starts marked index is has =
    subst (λ it. HasMarks nodes it marked) (sym (drop_all index starts (omega (arith, is)))) has

-- the starts from an index on are marked, once that at the index is
pub marks_from_index : (nodes : Nodes) (starts : List ℕ) (old new : List Bool) (index : ℕ) → index < length starts
    → AddsStart nodes (get_or starts index 0) old new → HasMarks nodes (drop (index + 1) starts) old
    → HasMarks nodes (drop index starts) new
marks_from_index nodes starts old new index inside adds has =
    subst (λ it. HasMarks nodes it new) (sym (drop-cons starts index 0 inside))
    (adds (drop (suc index) starts) (subst (λ n. HasMarks nodes (drop n starts) old) (add-one index) has))

-- the start at an index is known
pub known_at_index : (starts : List ℕ) (bound index : ℕ) → AllByRecursion (λ start. start < bound) starts → index < length starts
    → get_or starts index 0 < bound
known_at_index starts bound index known inside = All-from_recursion (λ start. start < bound) starts known index 0 inside

pub one_more_unread : (nodes : Nodes) (count : ℕ) → (nodes ++ replicate count None) ++ None ∷ [] ≡ nodes ++ replicate (count + 1) None
one_more_unread nodes count = append_assoc nodes (replicate count None) (None ∷ [])
    ∙ ap (λ it. nodes ++ it) (replicate-append-replicate count 1 None)

-- ---- no commit is read

none_at : (count number : ℕ) (node : NodeView ℕ) → ¬ (slice_get {X = Option (NodeView ℕ)} ([] ++ replicate count None) number ≡ Some (Some node))
none_at zero number node is = cc is
none_at (suc count) zero node is = cc is
none_at (suc count) (suc number) node is = none_at count number node is

pub nothing_read : (nodes : Nodes) (count : ℕ) → nodes ≡ [] ++ replicate count None → (number : ℕ) (node : NodeView ℕ)
    → ¬ graph_at nodes number node
nothing_read nodes count is number node read =
    none_at count number node (subst (λ (it : Nodes). graph_at it number node) is read)

pub nothing_given : (ids : List ObjectId) (nodes : Nodes) (count : ℕ) → nodes ≡ [] ++ replicate count None → (id : ObjectId)
    (node : NodeView ObjectId) → ¬ named_graph ids nodes id node
nothing_given ids nodes count is id node given = nothing_read nodes count is given.number given.numbered given.read

pub unread_length : (nodes : Nodes) (count : ℕ) → nodes ≡ [] ++ replicate count None → length nodes ≡ count
unread_length nodes count is = ap length is ∙ length-replicate count None

-- what is kept when a walk begins
pub walking_begun : (ids : List ObjectId) (done : ReadingView) (tips hidden : List ℕ) (count : ℕ)
    → done.nodes ≡ [] ++ replicate count None → count ≡ length ids → AreDistinct ids
    → AllByRecursion (λ number. number < length ids) tips → AllByRecursion (λ number. number < length ids) hidden
    → HasMarks done.nodes tips done.left → HasMarks done.nodes hidden done.right → IsWalking ids done tips hidden false
walking_begun ids done tips hidden count nodes all distinct tips_below hidden_below left right = record {
  lengths = unread_length done.nodes count nodes ∙ all;
  known = λ number node read. absurd (nothing_read done.nodes count nodes number node read);
  distinct = distinct;
  tips_known = tips_below;
  hidden_known = hidden_below;
  left = left;
  right = right;
  end = λ is. absurd (never is);
}
  where
    never : ¬ IsTrue false
    never is = cc is

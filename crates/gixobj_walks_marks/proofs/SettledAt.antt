-- Settled walks and searches by their marks.
use Rattle.std.proofs.Common.{◌≡◌, ◌⊎◌, ◌↔◌, ◌<◌, ℕ, Bool, List, [], ◌∷◌, Option, Some, None, Contains, IsTrue, get_or, length, refl, subst, sym, ap, ◌∙◌, inl}
use Rattle.std.proofs.Common.{inr, arith}
use Rattle.std.specs.List.{AllByRecursion, slice_get}
use Rattle.std.proofs.lemmas.Option.{none-some, same_Some, slice_get-get_or, slice_get_within}
use Rattle.gixobj_walks_graph.specs.Graph.{Graph, IsRead, IsReachedFrom, NodeView, Reaches}
use Rattle.gixobj_walks_graph.specs.Numbered.{IsMarked, Nodes, graph_at}
use Rattle.gixobj_walks_marks.specs.Chosen.{AreWantedMarked, HasManyBottoms, IsBottomAt, IsWantedAt, ListsBelow, ReachesWanted}
use Rattle.gixobj_walks_marks.specs.Marks.{HasMarks}
use Rattle.gixobj_walks_marks.specs.Readings.{AddsStart, IsUnread}
use Rattle.gixobj_walks_marks.specs.Settled.{IsBottom, IsSettledWalk, IsWanted}
use Rattle.gixobj_walks_marks.proofs.Bottoms.{selected_by_marks}
use Rattle.gixobj_walks_marks.proofs.Marked.{from_each_contained, marked_within, nothing_contained, one_contained, one_contains}

-- ---- commits that are not read

-- an entry that names no commit
entry_is_unread : (entry : Option (NodeView ℕ)) → (¬ ((node : NodeView ℕ) × (Some entry ≡ Some (Some node))))
    → entry ≡ None
entry_is_unread None unread = refl
entry_is_unread (Some node) unread = absurd (unread (node, refl))

-- a known commit that is not read
known_is_unread : (nodes : Nodes) (number : ℕ) → number < length nodes → (¬ IsRead (graph_at nodes) number)
    → IsUnread nodes number
known_is_unread nodes number inside unread =
    let found : slice_get nodes number ≡ Some (get_or nodes number None) = slice_get-get_or nodes number None inside in
    found ∙ ap Some (entry_is_unread (get_or nodes number None)
    (λ read. unread (read.0, found ∙ read.1)))

-- an unread commit names none
unread_is_not_read : (nodes : Nodes) (number : ℕ) → IsUnread nodes number → ¬ IsRead (graph_at nodes) number
unread_is_not_read nodes number unread read =
    none-some read.0 (same_Some None (Some read.0) (sym unread ∙ read.1))

-- what tips or hidden commits reach and is not read, by marks
pub wanted_at : (nodes : Nodes) (tips hidden : List ℕ) (left right : List Bool) → length left ≡ length nodes
    → length right ≡ length nodes → HasMarks nodes tips left → HasMarks nodes hidden right → (number : ℕ)
    → IsWanted (graph_at nodes) tips hidden number ↔ IsWantedAt nodes left right number
wanted_at nodes tips hidden left right left_length right_length on_left on_right number = (
  (λ wanted. elim wanted.reached [
    | inl tip ↦
        let is = (on_left number).1 tip in
        (known_is_unread nodes number (omega (arith, marked_within left number is, left_length)) wanted.unread, inl is)
    | inr hides ↦
        let is = (on_right number).1 hides in (
          known_is_unread nodes number (omega (arith, marked_within right number is, right_length)) wanted.unread,
          inr is,
        )
  ]),
  (λ wanted. record {
    unread = unread_is_not_read nodes number wanted.0;
    reached = elim wanted.1 [
      | inl is ↦ inl ((on_left number).0 is)
      | inr is ↦ inr ((on_right number).0 is)
    ];
  }),
)

-- ---- walks

-- bottoms by marks
pub bottom_at : (nodes : Nodes) (tips hidden : List ℕ) (left right : List Bool) → HasMarks nodes tips left
    → HasMarks nodes hidden right → (number : ℕ)
    → IsBottom (graph_at nodes) tips hidden number ↔ IsBottomAt nodes left right number
bottom_at nodes tips hidden left right on_left on_right number =
    let marks = selected_by_marks nodes tips hidden left right on_left on_right in (
      (λ bottom. record {
        read = bottom.read;
        chosen = (marks number).1 bottom.selected;
        last = λ parent has chosen. bottom.last parent has ((marks parent).0 chosen);
      }),
      (λ bottom. record {
        read = bottom.read;
        selected = (marks number).0 bottom.chosen;
        last = λ parent has selected. bottom.last parent has ((marks parent).1 selected);
      }),
    )

-- a walk is settled, by marks
pub walk_is_settled : (nodes : Nodes) (tips hidden : List ℕ) (left right : List Bool) → length left ≡ length nodes
    → length right ≡ length nodes → AreWantedMarked nodes left right right
    → ((bottom : ℕ) → IsBottomAt nodes left right bottom → ReachesWanted nodes left right bottom)
    → HasMarks nodes tips left → HasMarks nodes hidden right → IsSettledWalk (graph_at nodes) tips hidden
walk_is_settled nodes tips hidden left right left_length right_length marked below on_left on_right =
    let wanted = wanted_at nodes tips hidden left right left_length right_length on_left on_right in
    record {
      hides = λ id is. (on_right id).0 (marked id ((wanted id).0 is));
      below = λ id bottom is is_bottom.
          below bottom ((bottom_at nodes tips hidden left right on_left on_right bottom).0 is_bottom) id
          ((wanted id).0 is);
    }

-- a settled walk has its unread commits marked
pub settled_is_marked : (nodes : Nodes) (tips hidden : List ℕ) (left right : List Bool) → length left ≡ length nodes
    → length right ≡ length nodes → HasMarks nodes tips left → HasMarks nodes hidden right
    → IsSettledWalk (graph_at nodes) tips hidden → AreWantedMarked nodes left right right
settled_is_marked nodes tips hidden left right left_length right_length on_left on_right settled number is =
    (on_right number).1 (settled.hides number
    ((wanted_at nodes tips hidden left right left_length right_length on_left on_right number).1 is))

-- each bottom of a settled walk reaches the unread commits
pub settled_is_below : (nodes : Nodes) (tips hidden : List ℕ) (left right : List Bool) → length left ≡ length nodes
    → length right ≡ length nodes → HasMarks nodes tips left → HasMarks nodes hidden right
    → IsSettledWalk (graph_at nodes) tips hidden → (bottom : ℕ) → IsBottomAt nodes left right bottom
    → ReachesWanted nodes left right bottom
settled_is_below nodes tips hidden left right left_length right_length on_left on_right settled bottom is number
    wanted =
    settled.below number bottom
    ((wanted_at nodes tips hidden left right left_length right_length on_left on_right number).1 wanted)
    ((bottom_at nodes tips hidden left right on_left on_right bottom).1 is)

-- what is listed is inside
pub listed_are_inside : (P : ℕ → Type 0) (bound : ℕ) (numbers : List ℕ) → ListsBelow P bound numbers
    → AllByRecursion (λ number. number < bound) numbers
listed_are_inside P bound numbers lists = from_each_contained (λ (number : ℕ). number < bound) numbers
    (λ number has. ((lists.exact number).0 has).0)

-- a bottom is inside
bottom_is_inside : (nodes : Nodes) (left right : List Bool) (number : ℕ) → IsBottomAt nodes left right number
    → number < length nodes
bottom_is_inside nodes left right number bottom = slice_get_within nodes number (Some bottom.read.0) bottom.read.1

-- the answer of the test that each bottom reaches each unread commit
pub walk_settled_answer : (nodes : Nodes) (left right : List Bool) (found : List ℕ) (is : Bool)
    → length left ≡ length nodes → length right ≡ length nodes → AreWantedMarked nodes left right right
    → ListsBelow (IsBottomAt nodes left right) (length nodes) found
    → (IsTrue is ↔ ((start : ℕ) → Contains found start → ReachesWanted nodes left right start))
    → (tips hidden : List ℕ) → HasMarks nodes tips left → HasMarks nodes hidden right → IsTrue is
    → IsSettledWalk (graph_at nodes) tips hidden
walk_settled_answer nodes left right found is left_length right_length marked lists decides tips hidden on_left on_right
    test = walk_is_settled nodes tips hidden left right left_length right_length marked
    (λ bottom here. decides.0 test bottom
    ((lists.exact bottom).1 (bottom_is_inside nodes left right bottom here, here)))
    on_left on_right

-- the other answer of that test
pub walk_unsettled_answer : (nodes : Nodes) (left right : List Bool) (found : List ℕ) (is : Bool)
    → length left ≡ length nodes → length right ≡ length nodes
    → ListsBelow (IsBottomAt nodes left right) (length nodes) found
    → (IsTrue is ↔ ((start : ℕ) → Contains found start → ReachesWanted nodes left right start))
    → (tips hidden : List ℕ) → HasMarks nodes tips left → HasMarks nodes hidden right
    → IsSettledWalk (graph_at nodes) tips hidden
    → IsTrue is ⊎ HasManyBottoms (graph_at nodes) tips hidden
walk_unsettled_answer nodes left right found is left_length right_length lists decides tips hidden on_left on_right
    settled = inl (decides.1 (λ start has. settled_is_below nodes tips hidden left right left_length right_length on_left
    on_right settled start ((lists.exact start).0 has).1))

-- more bottoms than a test looks at
pub many_bottoms : (nodes : Nodes) (left right : List Bool) (found : List ℕ) → 16 < length found
    → ListsBelow (IsBottomAt nodes left right) (length nodes) found → (tips hidden : List ℕ)
    → HasMarks nodes tips left → HasMarks nodes hidden right → HasManyBottoms (graph_at nodes) tips hidden
many_bottoms nodes left right found many lists tips hidden on_left on_right = record {
  numbers = found;
  bottoms = λ number has. (bottom_at nodes tips hidden left right on_left on_right number).1
      ((lists.exact number).0 has).1;
  ascending = lists.ascending;
  many = many;
}

-- ---- fresh marks

-- the marks of no start
no_marks_of_none : (nodes : Nodes) (marked : List Bool) → ((number : ℕ) → ¬ IsMarked marked number)
    → HasMarks nodes [] marked
no_marks_of_none nodes marked none = λ number. (
  (λ is. absurd (none number is)),
  (λ reached. absurd (nothing_contained reached.0 reached.1)),
)

-- what one start reaches
pub reached_from_one : (G : Graph ℕ) (start number : ℕ) → IsReachedFrom G (start ∷ []) number → Reaches G start number
reached_from_one G start number reached =
    subst (λ (n : ℕ). Reaches G n number) (sym (one_contained start reached.0 reached.1)) reached.2

-- the answer of the test that one start reaches each unread commit
pub reaches_wanted_answer : (nodes : Nodes) (left right old new : List Bool) (start : ℕ) (is : Bool)
    → ((number : ℕ) → ¬ IsMarked old number) → AddsStart nodes start old new
    → (IsTrue is ↔ AreWantedMarked nodes left right new) → IsTrue is ↔ ReachesWanted nodes left right start
reaches_wanted_answer nodes left right old new start is none adds decides =
    let has = adds [] (no_marks_of_none nodes old none) in (
      (λ test number wanted. reached_from_one (graph_at nodes) start number
          ((has number).0 (decides.0 test number wanted))),
      (λ reaches. decides.1 (λ number wanted. (has number).1 (start, one_contains start, reaches number wanted))),
    )

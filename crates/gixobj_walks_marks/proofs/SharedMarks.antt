-- Marks and candidates of two sides.
use Rattle.std.proofs.Common.{◌≡◌, ◌⊎◌, ◌↔◌, ◌+◌, ◌<◌, ◌++◌, ℕ, Bool, true, List, [], ◌∷◌, Some, Contains, IsTrue, length, refl, subst, sym, ap, ◌∙◌, inl, inr}
use Rattle.std.proofs.Common.{arith, length-append}
use Rattle.std.specs.List.{slice_get}
use Rattle.std.proofs.Math.ListN.{set}
use Rattle.std.proofs.lemmas.List.{length-set}
use Rattle.std.proofs.lemmas.List.Elements.{Contains-append_cases, Contains-append_left, Contains-append_right}
use Rattle.std.proofs.lemmas.Option.{same_Some, slice_get_within}
use Rattle.gixobj_walks_graph.specs.Bases.{IsCommon}
use Rattle.gixobj_walks_graph.specs.Graph.{HasParent, IsRead}
use Rattle.gixobj_walks_graph.specs.Numbered.{IsMarked, Nodes, graph_at, parents_at}
use Rattle.gixobj_walks_graph.specs.Walks.{IsSelected}
use Rattle.gixobj_walks_marks.specs.Chosen.{AddsMarks, AreWantedMarked, HasManyCandidates, HasMarkedChild, IsCandidateAt, IsChosen, IsShared, IsWantedAt}
use Rattle.gixobj_walks_marks.specs.Chosen.{ListsBelow, MarksBelow, ReachesWanted}
use Rattle.gixobj_walks_marks.specs.Marks.{HasMarks}
use Rattle.gixobj_walks_marks.specs.Settled.{IsCandidate, IsSettledBases, IsWantedBase}
use Rattle.gixobj_walks_marks.proofs.Bottoms.{selected_by_marks}
use Rattle.gixobj_walks_marks.proofs.Marked.{marked_within, one_contained, one_contains, same_or_other, set_cases, set_keeps, slice_get-set_same}
use Rattle.gixobj_walks_marks.proofs.Queued.{slice_get-push_other, slice_get-pushed}
use Rattle.gixobj_walks_marks.proofs.SettledAt.{reached_from_one, wanted_at}
use Rattle.gixobj_walks_marks.proofs.Spread.{parents_at_has, parents_at_named}

-- ---- marks that are made one after the other

-- a mark that is pushed, or another one
pushed_cases : (old : List Bool) (is : Bool) (number : ℕ) → IsMarked (old ++ is ∷ []) number
    → ((length old ≡ number) × (is ≡ true)) ⊎ IsMarked old number
pushed_cases old is number marked =
    elim (same_or_other (length old) number) [
      | inl same ↦ inl (
        same,
        same_Some is true (sym (slice_get-pushed old is)
            ∙ subst (λ (n : ℕ). slice_get (old ++ is ∷ []) n ≡ Some true) (sym same) marked),
      )
      | inr other ↦ inr (sym (slice_get-push_other old is number other) ∙ marked)
    ]

-- the next mark
pub marks_more : (P : ℕ → Type 0) (bound : ℕ) (old new : List Bool) (is : Bool) → (IsTrue is ↔ P bound)
    → new ≡ old ++ is ∷ [] → MarksBelow P bound old → MarksBelow P (bound + 1) new
marks_more P bound old new is decides pushed marks =
    subst (λ (xs : List Bool). MarksBelow P (bound + 1) xs) (sym pushed) (record {
      length_is = omega (arith, length-append old (is ∷ []), marks.length_is);
      exact = λ number. (
        (λ marked. elim (pushed_cases old is number marked) [
          | inl here ↦
              let same : bound ≡ number = sym marks.length_is ∙ here.0 in
              (omega (arith, same), subst P same (decides.0 here.1))
          | inr before ↦
              let below = (marks.exact number).0 before in
              (omega (arith, below.0), below.1)
        ]),
        (λ below. elim (same_or_other bound number) [
          | inl same ↦ subst (λ (n : ℕ). IsMarked (old ++ is ∷ []) n) (marks.length_is ∙ same)
              (slice_get-pushed old is ∙ ap Some (decides.1 (subst P (sym same) below.1)))
          | inr other ↦
              let inside : number < bound = omega (arith, below.0, other) in
              slice_get-push_other old is number (λ same. other (sym marks.length_is ∙ same))
              ∙ (marks.exact number).1 (inside, below.1)
        ]),
      );
    })

-- the selected commits by marks of the left side alone
pub selected_answer : (left right chosen : List Bool) → MarksBelow (IsChosen left right) (length left) chosen
    → (nodes : Nodes) (tips hidden : List ℕ) → HasMarks nodes tips left → HasMarks nodes hidden right
    → (number : ℕ) → IsMarked chosen number ↔ IsSelected (graph_at nodes) tips hidden number
selected_answer left right chosen marks nodes tips hidden on_left on_right number =
    let by_marks = selected_by_marks nodes tips hidden left right on_left on_right number in (
      (λ is. by_marks.0 ((marks.exact number).0 is).1),
      (λ is. (marks.exact number).1 (marked_within left number (by_marks.1 is).0, by_marks.1 is)),
    )

-- ---- marks that are added

-- none
pub adds_none : (P : ℕ → Type 0) (marked : List Bool) → ((number : ℕ) → ¬ P number) → AddsMarks P marked marked
adds_none P marked never = record {
  length_is = refl;
  exact = λ number. (
    (λ is. inl is),
    (λ either. elim either [ inl is ↦ is | inr added ↦ absurd (never number added) ]),
  );
}

-- an equivalent predicate
pub adds_as : (P Q : ℕ → Type 0) (old new : List Bool) → ((number : ℕ) → P number ↔ Q number) → AddsMarks P old new
    → AddsMarks Q old new
adds_as P Q old new same adds = record {
  length_is = adds.length_is;
  exact = λ number. (
    (λ is. elim ((adds.exact number).0 is) [ inl before ↦ inl before | inr added ↦ inr ((same number).0 added) ]),
    (λ either. (adds.exact number).1
        (elim either [ inl before ↦ inl before | inr added ↦ inr ((same number).1 added) ])),
  );
}

-- some, and then others
pub adds_both : (P Q : ℕ → Type 0) (old middle new : List Bool) → AddsMarks P old middle → AddsMarks Q middle new
    → AddsMarks (λ number. P number ⊎ Q number) old new
adds_both P Q old middle new first second = record {
  length_is = second.length_is ∙ first.length_is;
  exact = λ number. (
    (λ is. elim ((second.exact number).0 is) [
      | inl between ↦ elim ((first.exact number).0 between) [
        | inl before ↦ inl before
        | inr added ↦ inr (inl added)
      ]
      | inr added ↦ inr (inr added)
    ]),
    (λ either. (second.exact number).1
        (elim either [
          | inl before ↦ inl ((first.exact number).1 (inl before))
          | inr added ↦ elim added [
            | inl here ↦ inl ((first.exact number).1 (inr here))
            | inr there ↦ inr there
          ]
        ])),
  );
}

-- one number
pub adds_one : (marked : List Bool) (i : ℕ) → i < length marked
    → AddsMarks (Contains (i ∷ [])) marked (set marked i true)
adds_one marked i inside = record {
  length_is = length-set marked i true;
  exact = λ number. (
    (λ is. elim (set_cases marked i number is) [
      | inl before ↦ inl before
      | inr same ↦ inr (subst (λ (n : ℕ). Contains (i ∷ []) n) same (one_contains i))
    ]),
    (λ either. elim either [
      | inl before ↦ set_keeps marked i number inside before
      | inr has ↦ subst (λ (n : ℕ). IsMarked (set marked i true) n) (one_contained i number has)
          (slice_get-set_same marked i true inside)
    ]),
  );
}

-- one more number of a list
pub adds_more : (numbers : List ℕ) (old middle : List Bool) (i : ℕ) → i < length middle
    → AddsMarks (Contains numbers) old middle → AddsMarks (Contains (numbers ++ i ∷ [])) old (set middle i true)
adds_more numbers old middle i inside adds =
    adds_as (λ number. Contains numbers number ⊎ Contains (i ∷ []) number) (Contains (numbers ++ i ∷ [])) old
    (set middle i true)
    (λ number. (
      (λ either. elim either [
        | inl before ↦ Contains-append_left numbers (i ∷ []) number before
        | inr here ↦ Contains-append_right numbers (i ∷ []) number here
      ]),
      (λ has. Contains-append_cases numbers (i ∷ []) number has),
    ))
    (adds_both (Contains numbers) (Contains (i ∷ [])) old middle (set middle i true) adds
    (adds_one middle i inside))

-- the parents of a commit of the side
pub adds_parents : (nodes : Nodes) (side old new : List Bool) (number : ℕ) → IsMarked side number
    → AddsMarks (Contains (parents_at nodes number)) old new
    → AddsMarks (λ parent. IsMarked side number × HasParent (graph_at nodes) number parent) old new
adds_parents nodes side old new number is adds =
    adds_as (Contains (parents_at nodes number))
    (λ parent. IsMarked side number × HasParent (graph_at nodes) number parent)
    old new
    (λ parent. (
      (λ has. (is, parents_at_has nodes number parent has)),
      (λ both. subst (λ (xs : List ℕ). Contains xs parent)
          (sym (parents_at_named nodes number both.1.node both.1.named)) both.1.listed),
    ))
    adds

-- the children below the next bound
pub adds_children : (nodes : Nodes) (side old middle new : List Bool) (bound : ℕ)
    → AddsMarks (HasMarkedChild nodes side bound) old middle
    → AddsMarks (λ parent. IsMarked side bound × HasParent (graph_at nodes) bound parent) middle new
    → AddsMarks (HasMarkedChild nodes side (bound + 1)) old new
adds_children nodes side old middle new bound first second =
    let Q : ℕ → Type 0 = λ parent. IsMarked side bound × HasParent (graph_at nodes) bound parent in
    adds_as (λ parent. HasMarkedChild nodes side bound parent ⊎ Q parent)
    (HasMarkedChild nodes side (bound + 1)) old new
    (λ parent. (
      (λ either. elim either [
        | inl before ↦ (before.0, omega (arith, before.1), before.2, before.3)
        | inr here ↦ (bound, omega arith, here.0, here.1)
      ]),
      (λ has. elim (same_or_other bound has.0) [
        | inl same ↦ inr (
          subst (λ (n : ℕ). IsMarked side n) (sym same) has.2,
          subst (λ (n : ℕ). HasParent (graph_at nodes) n parent) (sym same) has.3,
        )
        | inr other ↦ inl (has.0, omega (arith, has.1, other), has.2, has.3)
      ]),
    ))
    (adds_both (HasMarkedChild nodes side bound) Q old middle new first second)

-- ---- candidates

-- a list by an equivalent predicate
pub lists_as : (P Q : ℕ → Type 0) (bound : ℕ) (numbers : List ℕ) → ((number : ℕ) → P number ↔ Q number)
    → ListsBelow P bound numbers → ListsBelow Q bound numbers
lists_as P Q bound numbers same lists = record {
  exact = λ number. (
    (λ has.
        let below = (lists.exact number).0 has in
        (below.0, (same number).0 below.1)),
    (λ below. (lists.exact number).1 (below.0, (same number).1 below.1)),
  );
  ascending = lists.ascending;
}

-- the candidates, by the marks of shared commits and of their parents
pub candidate_marks : (nodes : Nodes) (left right shared none blocked : List Bool) → length left ≡ length nodes
    → MarksBelow (IsShared left right) (length left) shared → ((number : ℕ) → ¬ IsMarked none number)
    → AddsMarks (HasMarkedChild nodes shared (length nodes)) none blocked → (number : ℕ)
    → IsChosen shared blocked number ↔ IsCandidateAt nodes left right number
candidate_marks nodes left right shared none blocked lengths marks empty adds number = (
  (λ chosen. record {
    shared = ((marks.exact number).0 chosen.0).1;
    best = λ child both has. chosen.1 ((adds.exact number).1 (inr (
      child,
      slice_get_within nodes child (Some has.node) has.named,
      (marks.exact child).1 (marked_within left child both.0, both),
      has,
    )));
  }),
  (λ candidate. (
    (marks.exact number).1 (marked_within left number candidate.shared.0, candidate.shared),
    (λ is. elim ((adds.exact number).0 is) [
      | inl before ↦ empty number before
      | inr has ↦ candidate.best has.0 ((marks.exact has.0).0 has.2).1 has.3
    ]),
  )),
)

-- common commits by marks
common_at : (nodes : Nodes) (one other : ℕ) (left right : List Bool) → HasMarks nodes (one ∷ []) left
    → HasMarks nodes (other ∷ []) right → (number : ℕ)
    → IsCommon (graph_at nodes) one other number ↔ IsShared left right number
common_at nodes one other left right on_left on_right number = (
  (λ common. (
    (on_left number).1 (one, one_contains one, common.from_one),
    (on_right number).1 (other, one_contains other, common.from_other),
  )),
  (λ both. record {
    from_one = reached_from_one (graph_at nodes) one number ((on_left number).0 both.0);
    from_other = reached_from_one (graph_at nodes) other number ((on_right number).0 both.1);
  }),
)

-- candidates by marks
candidate_at : (nodes : Nodes) (one other : ℕ) (left right : List Bool) → HasMarks nodes (one ∷ []) left
    → HasMarks nodes (other ∷ []) right → (number : ℕ)
    → IsCandidate (graph_at nodes) one other number ↔ IsCandidateAt nodes left right number
candidate_at nodes one other left right on_left on_right number =
    let common = common_at nodes one other left right on_left on_right in (
      (λ candidate. record {
        shared = (common number).0 candidate.common;
        best = λ child both. candidate.best child ((common child).1 both);
      }),
      (λ candidate. record {
        common = (common number).1 candidate.shared;
        best = λ child both. candidate.best child ((common child).0 both);
      }),
    )

-- the list of the candidates
pub candidates_answer : (nodes : Nodes) (left right : List Bool) (found : List ℕ) → length left ≡ length nodes
    → ListsBelow (IsCandidateAt nodes left right) (length nodes) found → (one other : ℕ)
    → HasMarks nodes (one ∷ []) left → HasMarks nodes (other ∷ []) right → (number : ℕ)
    → Contains found number ↔ IsCandidate (graph_at nodes) one other number
candidates_answer nodes left right found lengths lists one other on_left on_right number =
    let candidate = candidate_at nodes one other left right on_left on_right number in (
      (λ has. candidate.1 ((lists.exact number).0 has).1),
      (λ is.
          let here = candidate.0 is in
          let inside : number < length nodes = omega (arith, lengths, marked_within left number here.shared.0) in
          (lists.exact number).1 (inside, here)),
    )

-- the list of the chosen commits is that of the candidates, as code reads the marks
pub listed_candidates : (nodes : Nodes) (left right shared none blocked first second third : List Bool) (found : List ℕ)
    → length left ≡ length nodes → MarksBelow (IsShared left right) (length left) shared
    → ((number : ℕ) → ¬ IsMarked none number)
    → AddsMarks (HasMarkedChild nodes first (length nodes)) none blocked → first ≡ shared → second ≡ shared
    → third ≡ blocked → ListsBelow (IsChosen second third) (length second) found
    → ListsBelow (IsCandidateAt nodes left right) (length nodes) found
listed_candidates nodes left right shared none blocked first second third found lengths marks empty adds first_is
    second_is third_is lists =
    let adds_here : AddsMarks (HasMarkedChild nodes shared (length nodes)) none blocked =
    subst (λ (xs : List Bool). AddsMarks (HasMarkedChild nodes xs (length nodes)) none blocked) first_is adds in
    let lists_second : ListsBelow (IsChosen shared third) (length shared) found =
    subst (λ (xs : List Bool). ListsBelow (IsChosen xs third) (length xs) found) second_is lists in
    let lists_third : ListsBelow (IsChosen shared blocked) (length shared) found =
    subst (λ (xs : List Bool). ListsBelow (IsChosen shared xs) (length shared) found) third_is lists_second in
    lists_as (IsChosen shared blocked) (IsCandidateAt nodes left right) (length nodes) found
    (candidate_marks nodes left right shared none blocked lengths marks empty adds_here)
    (subst (λ (n : ℕ). ListsBelow (IsChosen shared blocked) n found) (marks.length_is ∙ lengths) lists_third)

-- ---- a settled search

-- what one of the two commits reaches and is not read, by marks
wanted_base_at : (nodes : Nodes) (one other : ℕ) (left right : List Bool) → length left ≡ length nodes
    → length right ≡ length nodes → HasMarks nodes (one ∷ []) left → HasMarks nodes (other ∷ []) right → (number : ℕ)
    → IsWantedBase (graph_at nodes) one other number ↔ IsWantedAt nodes left right number
wanted_base_at nodes one other left right left_length right_length on_left on_right number =
    let wanted =
    wanted_at nodes (one ∷ []) (other ∷ []) left right left_length right_length on_left on_right number in (
      (λ base. wanted.0 (record {
        unread = base.unread;
        reached = elim base.reached [
          | inl path ↦ inl (one, one_contains one, path)
          | inr path ↦ inr (other, one_contains other, path)
        ];
      })),
      (λ at.
          let is = wanted.1 at in
          record {
            unread = is.unread;
            reached = elim is.reached [
              | inl reached ↦ inl (reached_from_one (graph_at nodes) one number reached)
              | inr reached ↦ inr (reached_from_one (graph_at nodes) other number reached)
            ];
          }),
    )

-- the answer of a search that is settled
pub bases_settled_answer : (nodes : Nodes) (left right : List Bool) (found : List ℕ) (is : Bool)
    → length left ≡ length nodes → length right ≡ length nodes → AreWantedMarked nodes left right left
    → AreWantedMarked nodes left right right → ListsBelow (IsCandidateAt nodes left right) (length nodes) found
    → ((number : ℕ) → Contains found number → IsRead (graph_at nodes) number)
    → (IsTrue is ↔ ((start : ℕ) → Contains found start → ReachesWanted nodes left right start))
    → (one other : ℕ) → HasMarks nodes (one ∷ []) left → HasMarks nodes (other ∷ []) right → IsTrue is
    → IsSettledBases (graph_at nodes) one other
bases_settled_answer nodes left right found is left_length right_length both_left both_right lists read decides one other
    on_left on_right test =
    let wanted = wanted_base_at nodes one other left right left_length right_length on_left on_right in
    let listed = candidates_answer nodes left right found left_length lists one other on_left on_right in
    record {
      common = λ id base. (common_at nodes one other left right on_left on_right id).1
          (both_left id ((wanted id).0 base), both_right id ((wanted id).0 base));
      below = λ id candidate base best. decides.0 test candidate ((listed candidate).1 best) id ((wanted id).0 base);
      read = λ candidate best. read candidate ((listed candidate).1 best);
    }

-- what a settled search has
pub settled_bases_are_shared : (nodes : Nodes) (one other : ℕ) (left right : List Bool) → length left ≡ length nodes
    → length right ≡ length nodes → HasMarks nodes (one ∷ []) left → HasMarks nodes (other ∷ []) right
    → IsSettledBases (graph_at nodes) one other → (number : ℕ) → IsWantedAt nodes left right number
    → IsShared left right number
settled_bases_are_shared nodes one other left right left_length right_length on_left on_right settled number wanted =
    (common_at nodes one other left right on_left on_right number).0 (settled.common number
    ((wanted_base_at nodes one other left right left_length right_length on_left on_right number).1 wanted))

-- its candidates are read
pub settled_bases_are_read : (nodes : Nodes) (one other : ℕ) (left right : List Bool) (found : List ℕ)
    → length left ≡ length nodes → ListsBelow (IsCandidateAt nodes left right) (length nodes) found
    → HasMarks nodes (one ∷ []) left → HasMarks nodes (other ∷ []) right
    → IsSettledBases (graph_at nodes) one other → (number : ℕ) → Contains found number
    → IsRead (graph_at nodes) number
settled_bases_are_read nodes one other left right found left_length lists on_left on_right settled number has =
    settled.read number
    ((candidates_answer nodes left right found left_length lists one other on_left on_right number).0 has)

-- the other answer of that test
pub bases_unsettled_answer : (nodes : Nodes) (left right : List Bool) (found : List ℕ) (is : Bool)
    → length left ≡ length nodes → length right ≡ length nodes
    → ListsBelow (IsCandidateAt nodes left right) (length nodes) found
    → (IsTrue is ↔ ((start : ℕ) → Contains found start → ReachesWanted nodes left right start))
    → (one other : ℕ) → HasMarks nodes (one ∷ []) left → HasMarks nodes (other ∷ []) right
    → IsSettledBases (graph_at nodes) one other → IsTrue is ⊎ HasManyCandidates (graph_at nodes) one other
bases_unsettled_answer nodes left right found is left_length right_length lists decides one other on_left
    on_right settled =
    inl (decides.1 (λ start has number wanted. settled.below number start
    ((wanted_base_at nodes one other left right left_length right_length on_left on_right number).1 wanted)
    ((candidates_answer nodes left right found left_length lists one other on_left on_right start).0 has)))

-- more candidates than a test looks at
pub many_candidates : (nodes : Nodes) (left right : List Bool) (found : List ℕ) → length left ≡ length nodes
    → 16 < length found → ListsBelow (IsCandidateAt nodes left right) (length nodes) found → (one other : ℕ)
    → HasMarks nodes (one ∷ []) left → HasMarks nodes (other ∷ []) right
    → HasManyCandidates (graph_at nodes) one other
many_candidates nodes left right found left_length many lists one other on_left on_right = record {
  numbers = found;
  candidates = λ number has.
      (candidates_answer nodes left right found left_length lists one other on_left on_right number).0 has;
  ascending = lists.ascending;
  many = many;
}

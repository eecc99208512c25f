-- What is kept while commits are added, marked and read.
use Rattle.std.proofs.Common.{◌≡◌, ◌≢◌, ◌⊎◌, ◌↔◌, ◌+◌, ◌<◌, ◌++◌, ℕ, Bool, true, false, List, [], ◌∷◌, Option, Some, None, Contains, IsTrue, drop, length, take}
use Rattle.std.proofs.Common.{refl, subst, sym, ◌∙◌, inl, inr, arith, length-append}
use Rattle.std.specs.List.{AllByRecursion, slice_get}
use Rattle.std.specs.List.Sorted.{IsPermutation}
use Rattle.std.specs.Option.{is_some}
use Rattle.std.proofs.Math.ListN.{set}
use Rattle.std.proofs.lemmas.Bool.{false≢true}
use Rattle.std.proofs.lemmas.List.{append-nil, drop_all, length-set, take_all}
use Rattle.std.proofs.lemmas.List.Elements.{Contains-append_cases, Contains-append_left, Contains-append_right, Contains-push}
use Rattle.std.proofs.lemmas.Option.{none-some, same_Some, slice_get_within}
use Rattle.gixobj_walks_graph.specs.Graph.{Graph, IsIncluded, IsRead, IsReachedFrom, NodeView, Reaches}
use Rattle.gixobj_walks_graph.specs.Numbered.{AreParentsKnown, IsClosed, IsMarked, Nodes, graph_at}
use Rattle.gixobj_walks_marks.specs.Marks.{HasMarks}
use Rattle.gixobj_walks_marks.specs.Queue.{IsTakenOut}
use Rattle.gixobj_walks_marks.specs.Readings.{AddsStart, IsReading, IsUnread, KeepsMarks, PassesMark}
use Rattle.gixobj_walks_marks.specs.Spreading.{MarksReached}
use Rattle.gixobj_walks_marks.specs.declared.queue.Unread.{Unread}
use Rattle.gixobj_walks_marks.proofs.Marked.{each_contained, from_each_contained, nothing_contained, one_contained, one_contains, same_or_other}
use Rattle.gixobj_walks_marks.proofs.Marked.{slice_get-set_other, slice_get-set_same}
use Rattle.gixobj_walks_marks.proofs.Paths.{includes_reached, includes_reached_from, reached_from_reaches, reaches_itself, reaches_parent, reaches_transitively}
use Rattle.gixobj_walks_marks.proofs.Queued.{queued_push, queued_read, reads_more, reads_push, slice_get-push_other, slice_get-pushed, taken_is_unread}
use Rattle.gixobj_walks_marks.proofs.Spread.{closed_path}

-- ---- a commit is added

-- an element that was there
push_keeps : {X : Type 0} (xs : List X) (y : X) (i : ℕ) (x : X) → slice_get xs i ≡ Some x
    → slice_get (xs ++ y ∷ []) i ≡ Some x
push_keeps xs y i x found =
    slice_get-push_other xs y i (λ same. omega (arith, slice_get_within xs i x found, same)) ∙ found

-- an element that is not the one that was pushed
push_found : {X : Type 0} (xs : List X) (y : X) (i : ℕ) (x : X) → y ≢ x → slice_get (xs ++ y ∷ []) i ≡ Some x
    → slice_get xs i ≡ Some x
push_found {X} xs y i x other found =
    elim (same_or_other (length xs) i) [
      | inl same ↦ absurd (other (same_Some y x (sym (slice_get-pushed xs y)
          ∙ subst (λ (n : ℕ). slice_get (xs ++ y ∷ []) n ≡ Some x) (sym same) found)))
      | inr apart ↦ sym (slice_get-push_other xs y i apart) ∙ found
    ]

-- the graph of the read commits is as before
push_includes : (nodes : Nodes) → IsIncluded (graph_at nodes) (graph_at (nodes ++ None ∷ []))
push_includes nodes number node named = push_keeps nodes None number (Some node) named

included_in_push : (nodes : Nodes) → IsIncluded (graph_at (nodes ++ None ∷ [])) (graph_at nodes)
included_in_push nodes number node named = push_found nodes None number (Some node) (λ same. none-some node same) named

-- the marks are as before
push_marked : (marked : List Bool) (number : ℕ) → IsMarked (marked ++ false ∷ []) number → IsMarked marked number
push_marked marked number is = push_found marked false number true (λ same. cc) is

-- the parents are known as before
known_push : (nodes : Nodes) → AreParentsKnown nodes → AreParentsKnown (nodes ++ None ∷ [])
known_push nodes known = λ number node named. from_each_contained (λ (p : ℕ). p < length (nodes ++ None ∷ []))
    node.parents
    (λ parent has.
    let inside : parent < length nodes = each_contained (λ (p : ℕ). p < length nodes) node.parents parent
    (known number node (included_in_push nodes number node named)) has in
    omega (arith, inside, length-append nodes (None ∷ [])))

-- the marks are closed as before
closed_push : (nodes : Nodes) (marked : List Bool) → IsClosed nodes marked
    → IsClosed (nodes ++ None ∷ []) (marked ++ false ∷ [])
closed_push nodes marked closed = λ number node named is.
    from_each_contained (IsMarked (marked ++ false ∷ [])) node.parents
    (λ parent has. push_keeps marked false parent true
    (each_contained (IsMarked marked) node.parents parent
    (closed number node (included_in_push nodes number node named) (push_marked marked number is)) has))

-- what is kept when a commit is added
pub added_is_reading : (nodes : Nodes) (left right : List Bool) (old new : List Unread) (x : Unread) (read : ℕ)
    → x.number ≡ length nodes → IsPermutation (x ∷ old) new → IsReading nodes left right old read
    → IsReading (nodes ++ None ∷ []) (left ++ false ∷ []) (right ++ false ∷ []) new read
added_is_reading nodes left right old new x read named pushed is = record {
  known = known_push nodes is.known;
  left_length = omega (arith, is.left_length, length-append nodes (None ∷ []), length-append left (false ∷ []));
  right_length = omega (arith, is.right_length, length-append nodes (None ∷ []), length-append right (false ∷ []));
  left_closed = closed_push nodes left is.left_closed;
  right_closed = closed_push nodes right is.right_closed;
  queued = queued_push nodes old new x named pushed is.queued;
  counted = is.counted ∙ sym (reads_push nodes);
}

-- the starts reach what they reached
pub marks_push : (nodes : Nodes) (marked : List Bool)
    → KeepsMarks nodes marked (nodes ++ None ∷ []) (marked ++ false ∷ [])
marks_push nodes marked = λ starts has number. (
  (λ is. includes_reached_from (graph_at nodes) (graph_at (nodes ++ None ∷ [])) (push_includes nodes) starts number
      ((has number).0 (push_marked marked number is))),
  (λ reached. push_keeps marked false number true ((has number).1
      (includes_reached_from (graph_at (nodes ++ None ∷ [])) (graph_at nodes) (included_in_push nodes) starts number
      reached))),
)

-- ---- a commit is a start

-- the starts and another one reach what is marked now
pub marks_start : (nodes : Nodes) (start : ℕ) (old new : List Bool)
    → ((number : ℕ) → IsMarked new number ↔ (IsMarked old number ⊎ Reaches (graph_at nodes) start number))
    → AddsStart nodes start old new
marks_start nodes start old new spread = λ starts has number. (
  (λ is. elim ((spread number).0 is) [
    | inl before ↦
        let reached = (has number).0 before in
        (reached.0, Contains-append_right (start ∷ []) starts reached.0 reached.1, reached.2)
    | inr path ↦ (start, Contains-append_left (start ∷ []) starts start (one_contains start), path)
  ]),
  (λ reached. (spread number).1
      (elim (Contains-append_cases (start ∷ []) starts reached.0 reached.1) [
        | inl here ↦ inr (subst (λ (n : ℕ). Reaches (graph_at nodes) n number)
            (sym (one_contained start reached.0 here)) reached.2)
        | inr there ↦ inl ((has number).1 (reached.0, there, reached.2))
      ])),
)

-- ---- several commits are marked

-- none
pub marks_of_none : (nodes : Nodes) (marked : List Bool) → MarksReached nodes [] marked marked
marks_of_none nodes marked = λ number. (
  (λ is. inl is),
  (λ either. elim either [
    | inl is ↦ is
    | inr reached ↦ absurd (nothing_contained reached.0 reached.1)
  ]),
)

-- another one
pub marks_of_more : (nodes : Nodes) (starts : List ℕ) (start : ℕ) (old middle new : List Bool)
    → MarksReached nodes starts old middle
    → ((number : ℕ) → IsMarked new number ↔ (IsMarked middle number ⊎ Reaches (graph_at nodes) start number))
    → MarksReached nodes (starts ++ start ∷ []) old new
marks_of_more nodes starts start old middle new first spread = λ number. (
  (λ is. elim ((spread number).0 is) [
    | inl between ↦ elim ((first number).0 between) [
      | inl before ↦ inl before
      | inr reached ↦ inr (reached.0, Contains-append_left starts (start ∷ []) reached.0 reached.1, reached.2)
    ]
    | inr path ↦ inr (start, Contains-push starts start, path)
  ]),
  (λ either. (spread number).1
      (elim either [
        | inl before ↦ inl ((first number).1 (inl before))
        | inr reached ↦ elim (Contains-append_cases starts (start ∷ []) reached.0 reached.1) [
          | inl here ↦ inl ((first number).1 (inr (reached.0, here, reached.2)))
          | inr there ↦ inr (subst (λ (n : ℕ). Reaches (graph_at nodes) n number)
              (sym (one_contained start reached.0 there)) reached.2)
        ]
      ])),
)

-- the mark of a commit that has one passes
pub mark_passes : (nodes : Nodes) (number : ℕ) (parents : List ℕ) (old new : List Bool) → IsMarked old number
    → MarksReached nodes parents old new → PassesMark nodes number parents old new
mark_passes nodes number parents old new is marks = λ other. (
  (λ after. elim ((marks other).0 after) [ inl before ↦ inl before | inr reached ↦ inr (is, reached) ]),
  (λ either. (marks other).1 (elim either [ inl before ↦ inl before | inr through ↦ inr through.1 ])),
)

-- a commit without a mark passes none
pub no_mark_passes : (nodes : Nodes) (number : ℕ) (parents : List ℕ) (marked : List Bool)
    → (¬ IsMarked marked number) → PassesMark nodes number parents marked marked
no_mark_passes nodes number parents marked none = λ other. (
  (λ is. inl is),
  (λ either. elim either [ inl is ↦ is | inr through ↦ absurd (none through.0) ]),
)

-- ---- a commit is read

-- the commit is read afterwards
read_named : (nodes : Nodes) (number : ℕ) (node : NodeView ℕ) → IsUnread nodes number
    → graph_at (set nodes number (Some node)) number node
read_named nodes number node unread = slice_get-set_same nodes number (Some node)
    (slice_get_within nodes number None unread)

-- the others are as before
read_includes : (nodes : Nodes) (number : ℕ) (node : NodeView ℕ) → IsUnread nodes number
    → IsIncluded (graph_at nodes) (graph_at (set nodes number (Some node)))
read_includes nodes number node unread other found named =
    slice_get-set_other nodes number other (Some node)
    (λ same. none-some found (same_Some None (Some found) (sym unread
    ∙ subst (λ (n : ℕ). slice_get nodes n ≡ Some (Some found)) (sym same) named)))
    ∙ named

-- a commit that is read afterwards was read before, or is this one
read_cases : (nodes : Nodes) (number : ℕ) (node : NodeView ℕ) → IsUnread nodes number → (other : ℕ)
    (found : NodeView ℕ) → graph_at (set nodes number (Some node)) other found
    → ((number ≡ other) × (node ≡ found)) ⊎ graph_at nodes other found
read_cases nodes number node unread other found named =
    elim (same_or_other number other) [
      | inl same ↦ inl (
        same,
        same_Some node found (same_Some (Some node) (Some found)
            (sym (read_named nodes number node unread)
            ∙ subst (λ (n : ℕ). slice_get (set nodes number (Some node)) n ≡ Some (Some found)) (sym same) named)),
      )
      | inr apart ↦ inr (sym (slice_get-set_other nodes number other (Some node) apart) ∙ named)
    ]

-- the parents are known
known_read : (nodes : Nodes) (number : ℕ) (node : NodeView ℕ) → IsUnread nodes number → AreParentsKnown nodes
    → AllByRecursion (λ parent. parent < length nodes) node.parents
    → AreParentsKnown (set nodes number (Some node))
known_read nodes number node unread known parents = λ other found named.
    subst (λ (n : ℕ). AllByRecursion (λ parent. parent < n) found.parents)
    (sym (length-set nodes number (Some node)))
    (elim (read_cases nodes number node unread other found named) [
      | inl same ↦ subst (λ (v : NodeView ℕ). AllByRecursion (λ parent. parent < length nodes) v.parents)
          same.1 parents
      | inr before ↦ known other found before
    ])

-- a commit that is marked after its mark passes has marked parents, also the one that is read
parent_is_marked : (nodes : Nodes) (number : ℕ) (node : NodeView ℕ) (old new : List Bool) → IsUnread nodes number
    → IsClosed nodes old → PassesMark nodes number node.parents old new → (other : ℕ) (found : NodeView ℕ)
    → graph_at (set nodes number (Some node)) other found → IsMarked new other → (parent : ℕ)
    → Contains found.parents parent → IsMarked new parent
parent_is_marked nodes number node old new unread closed passes other found named is parent has =
    elim (read_cases nodes number node unread other found named) [
      | inl same ↦
          let listed : Contains node.parents parent =
          subst (λ (v : NodeView ℕ). Contains v.parents parent) (sym same.1) has in
          let marked : IsMarked old number =
          elim ((passes number).0 (subst (λ (n : ℕ). IsMarked new n) (sym same.0) is)) [
            | inl before ↦ before
            | inr through ↦ through.0
          ] in
          (passes parent).1 (inr (marked, (parent, listed, reaches_itself (graph_at nodes) parent)))
      | inr before ↦
          elim ((passes other).0 is) [
            | inl marked ↦ (passes parent).1 (inl
                (each_contained (IsMarked old) found.parents parent (closed other found before marked) has))
            | inr through ↦ (passes parent).1 (inr (
              through.0,
              reached_from_reaches (graph_at nodes) node.parents other
                  parent through.1 (reaches_parent (graph_at nodes) other parent
                  (record { node = found; named = before; listed = has })),
            ))
          ]
    ]

-- the marks are closed once they pass
closed_read : (nodes : Nodes) (number : ℕ) (node : NodeView ℕ) (old new : List Bool) → IsUnread nodes number
    → IsClosed nodes old → PassesMark nodes number node.parents old new
    → IsClosed (set nodes number (Some node)) new
closed_read nodes number node old new unread closed passes = λ other found named is.
    from_each_contained (IsMarked new) found.parents
    (parent_is_marked nodes number node old new unread closed passes other found named is)

-- the starts reach what is marked once the marks pass
pub marks_read : (nodes : Nodes) (number : ℕ) (node : NodeView ℕ) (old new : List Bool) → IsUnread nodes number
    → IsClosed nodes old → PassesMark nodes number node.parents old new
    → KeepsMarks nodes old (set nodes number (Some node)) new
marks_read nodes number node old new unread closed passes = λ starts has other.
    let G : Graph ℕ = graph_at nodes in
    let H : Graph ℕ = graph_at (set nodes number (Some node)) in
    let included : IsIncluded G H = read_includes nodes number node unread in (
      (λ is. elim ((passes other).0 is) [
        | inl before ↦ includes_reached_from G H included starts other ((has other).0 before)
        | inr through ↦
            let parent = through.1.0 in
            let here : IsReachedFrom H starts number =
            includes_reached_from G H included starts number ((has number).0 through.0) in
            reached_from_reaches H starts number other here
            (reaches_transitively H number parent other
            (reaches_parent H number parent (record {
              node = node;
              named = read_named nodes number node unread;
              listed = through.1.1;
            }))
            (includes_reached G H included parent other through.1.2))
      ]),
      (λ reached. closed_path (set nodes number (Some node)) new
          (closed_read nodes number node old new unread closed passes) reached.2.0 reached.0 other
          ((passes reached.0).1 (inl ((has reached.0).1
          (reached.0, reached.1, reaches_itself G reached.0))))
          reached.2.1),
    )

-- what is kept when a commit is read
pub read_is_reading : (nodes : Nodes) (left right new_left new_right : List Bool) (old new : List Unread)
    (read number : ℕ)
    (node : NodeView ℕ) → IsReading nodes left right old read → IsTakenOut number old new
    → AllByRecursion (λ parent. parent < length nodes) node.parents
    → PassesMark nodes number node.parents left new_left → PassesMark nodes number node.parents right new_right
    → length new_left ≡ length left → length new_right ≡ length right
    → IsReading (set nodes number (Some node)) new_left new_right new (read + 1)
read_is_reading nodes left right new_left new_right old new read number node is out parents on_left on_right
    left_length right_length =
    let unread = taken_is_unread nodes number old new is.queued out in
    record {
      known = known_read nodes number node unread is.known parents;
      left_length = left_length ∙ is.left_length ∙ sym (length-set nodes number (Some node));
      right_length = right_length ∙ is.right_length ∙ sym (length-set nodes number (Some node));
      left_closed = closed_read nodes number node left new_left unread is.left_closed on_left;
      right_closed = closed_read nodes number node right new_right unread is.right_closed on_right;
      queued = queued_read nodes number node old new is.queued out;
      counted = omega (arith, is.counted, reads_more nodes number node unread);
    }

-- ---- nothing is known

-- no start reaches anything
pub no_marks : (nodes : Nodes) (marked : List Bool) → marked ≡ [] → HasMarks nodes [] marked
no_marks nodes marked none = λ number. (
  (λ is. absurd (none-some true (subst (λ (xs : List Bool). IsMarked xs number) none is))),
  (λ reached. absurd (nothing_contained reached.0 reached.1)),
)

-- ---- as code has them

-- a list whose slice was written
pub slice_is_written : (n : ℕ) (old new : List Bool) → n ≡ length old → length new ≡ length old
    → take n (new ++ drop (length new) old) ≡ new
slice_is_written n old new complete lengths =
    let rest : drop (length new) old ≡ [] = drop_all (length new) old (omega (arith, lengths)) in
    subst (λ (xs : List Bool). take n (new ++ xs) ≡ new) (sym rest)
    (subst (λ (xs : List Bool). take n xs ≡ new) (sym (append-nil new))
    (take_all n new (omega (arith, complete, lengths))))

-- what is kept when a commit is added
pub added_reading : (nodes new_nodes : Nodes) (left new_left right new_right : List Bool) (old new : List Unread)
    (seconds read : ℕ) → new_nodes ≡ nodes ++ None ∷ [] → new_left ≡ left ++ false ∷ []
    → new_right ≡ right ++ false ∷ []
    → IsPermutation (record { seconds = seconds; number = length nodes } ∷ old) new
    → IsReading nodes left right old read → IsReading new_nodes new_left new_right new read
added_reading nodes new_nodes left new_left right new_right old new seconds read nodes_are left_is right_is pushed is =
    subst (λ (xs : Nodes). IsReading xs new_left new_right new read) (sym nodes_are)
    (subst (λ (xs : List Bool). IsReading (nodes ++ None ∷ []) xs new_right new read) (sym left_is)
    (subst (λ (xs : List Bool). IsReading (nodes ++ None ∷ []) (left ++ false ∷ []) xs new read)
    (sym right_is)
    (added_is_reading nodes left right old new (record { seconds = seconds; number = length nodes }) read
    refl pushed is)))

-- the starts reach what they reached
pub marks_added : (nodes new_nodes : Nodes) (marked new_marked : List Bool) → new_nodes ≡ nodes ++ None ∷ []
    → new_marked ≡ marked ++ false ∷ [] → KeepsMarks nodes marked new_nodes new_marked
marks_added nodes new_nodes marked new_marked nodes_are is =
    subst (λ (xs : Nodes). KeepsMarks nodes marked xs new_marked) (sym nodes_are)
    (subst (λ (xs : List Bool). KeepsMarks nodes marked (nodes ++ None ∷ []) xs) (sym is)
    (marks_push nodes marked))

-- a test whether a commit is read
pub read_test : (nodes : Nodes) (number : ℕ) (entry : Option (NodeView ℕ)) → slice_get nodes number ≡ Some entry
    → (is : Bool) → is ≡ is_some entry → IsTrue is ↔ IsRead (graph_at nodes) number
read_test nodes number (Some node) found true same = ((λ holds. (node, found)), (λ read. refl))
read_test nodes number (Some node) found false same = absurd (false≢true same)
read_test nodes number None found true same = absurd (false≢true (sym same))
read_test nodes number None found false same = (
  (λ holds. absurd (false≢true holds)),
  (λ read. absurd (none-some read.0 (same_Some None (Some read.0) (sym found ∙ read.1)))),
)

-- a start of marks that code reads through a slice
pub marks_start_at : (nodes : Nodes) (start : ℕ) (old read new : List Bool) → read ≡ old
    → ((number : ℕ) → IsMarked new number ↔ (IsMarked read number ⊎ Reaches (graph_at nodes) start number))
    → AddsStart nodes start old new
marks_start_at nodes start old read new same spread =
    subst (λ (xs : List Bool). AddsStart nodes start xs new) same (marks_start nodes start read new spread)

-- marks that pass by lists that code reads through slices
pub passes_at : (nodes read_nodes : Nodes) (number : ℕ) (parents read_parents : List ℕ) (old new : List Bool)
    → read_nodes ≡ nodes → read_parents ≡ parents → PassesMark read_nodes number read_parents old new
    → PassesMark nodes number parents old new
passes_at nodes read_nodes number parents read_parents old new same_nodes same_parents passes =
    subst (λ (xs : Nodes). PassesMark xs number parents old new) same_nodes
    (subst (λ (ps : List ℕ). PassesMark read_nodes number ps old new) same_parents passes)

-- parents that code reads through slices
pub parents_known_at : (nodes read_nodes : Nodes) (parents read_parents : List ℕ) → read_nodes ≡ nodes
    → read_parents ≡ parents → AllByRecursion (λ parent. parent < length nodes) parents
    → AllByRecursion (λ parent. parent < length read_nodes) read_parents
parents_known_at nodes read_nodes parents read_parents same_nodes same_parents known =
    subst (λ (xs : Nodes). AllByRecursion (λ parent. parent < length xs) read_parents) (sym same_nodes)
    (subst (λ (ps : List ℕ). AllByRecursion (λ parent. parent < length nodes) ps) (sym same_parents) known)

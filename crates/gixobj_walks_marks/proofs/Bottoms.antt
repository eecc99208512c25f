-- Graphs of numbers without a cycle: each selected commit that is read reaches a bottom.
use Rattle.std.proofs.Common.{◌≡◌, ◌⊎◌, ◌↔◌, ℕ, suc, Bool, List, [], ◌∷◌, Option, Some, None, Contains, length, refl, subst, sym, ◌∙◌, inl, inr}
use Rattle.std.specs.List.{slice_get}
use Rattle.std.proofs.lemmas.List.Elements.{Contains-append_cases, Contains-append_left, Contains-append_right}
use Rattle.std.proofs.lemmas.Option.{none-some, same_Some, slice_get_within}
use Rattle.gixobj_walks_graph.specs.Graph.{Graph, HasAncestor, HasParent, IsAcyclic, IsFunctional, IsIncluded, IsRead, IsReachedFrom, NodeView, Reaches}
use Rattle.gixobj_walks_graph.specs.Numbered.{IsMarked, Nodes, graph_at}
use Rattle.gixobj_walks_graph.specs.Walks.{IsSelected}
use Rattle.gixobj_walks_graph.proofs.Cycles.{cycle_from_successors}
use Rattle.gixobj_walks_marks.specs.Marks.{HasMarks}
use Rattle.gixobj_walks_marks.specs.Settled.{IsBottom, IsSettledWalk, IsWanted}
use Rattle.gixobj_walks_marks.proofs.Ends.{HaveBottoms, settled_walk_is_exact}
use Rattle.gixobj_walks_marks.proofs.Marked.{marked_or_not, nothing_contained, one_contained, one_contains}
use Rattle.gixobj_walks_marks.proofs.Paths.{ancestor_is_reached, ancestor_reaches, includes_path, reaches_itself, reaches_parent, reaches_transitively}
use Rattle.gixobj_walks_marks.proofs.Paths.{step_reaches}

-- ---- what can be decided

-- one of the elements passes, or none does
pub some_or_none : {X : Type 0} (P : X → Type 0) → ((x : X) → P x ⊎ (¬ P x)) → (xs : List X)
    → ((x : X) × Contains xs x × P x) ⊎ ((x : X) → Contains xs x → ¬ P x)
some_or_none P decide [] = inr (λ x has passes. nothing_contained x has)
some_or_none {X} P decide (x ∷ xs) =
    elim (decide x) [
      | inl passes ↦ inl (x, Contains-append_left (x ∷ []) xs x (one_contains x), passes)
      | inr fails ↦ elim (some_or_none P decide xs) [
        | inl found ↦ inl (found.0, Contains-append_right (x ∷ []) xs found.0 found.1, found.2)
        | inr none ↦ inr (λ y has passes. elim (Contains-append_cases (x ∷ []) xs y has) [
          | inl here ↦ fails (subst P (sym (one_contained x y here)) passes)
          | inr there ↦ none y there passes
        ])
      ]
    ]

-- a known commit is read or isn't
entry_read_or_not : (entry : Option (Option (NodeView ℕ)))
    → ((node : NodeView ℕ) × (entry ≡ Some (Some node))) ⊎ (¬ ((node : NodeView ℕ) × (entry ≡ Some (Some node))))
entry_read_or_not (Some (Some node)) = inl (node, refl)
entry_read_or_not (Some None) = inr (λ read. none-some read.0 (same_Some None (Some read.0) read.1))
entry_read_or_not None = inr (λ read. none-some (Some read.0) read.1)

-- a commit is read or isn't
pub read_or_not : (nodes : Nodes) (number : ℕ) → IsRead (graph_at nodes) number ⊎ (¬ IsRead (graph_at nodes) number)
read_or_not nodes number = entry_read_or_not (slice_get nodes number)

-- a number names one commit at most
pub graph_at_is_functional : (nodes : Nodes) → IsFunctional (graph_at nodes)
graph_at_is_functional nodes number node other named other_named =
    same_Some node other (same_Some (Some node) (Some other) (sym named ∙ other_named))

-- exactly the selected commits have the mark of the left side alone
pub selected_by_marks : (nodes : Nodes) (tips hidden : List ℕ) (left right : List Bool) → HasMarks nodes tips left
    → HasMarks nodes hidden right → (number : ℕ)
    → (IsMarked left number × (¬ IsMarked right number)) ↔ IsSelected (graph_at nodes) tips hidden number
selected_by_marks nodes tips hidden left right on_left on_right number = (
  (λ marks. record {
    reached = (on_left number).0 marks.0;
    shown = λ hides. marks.1 ((on_right number).1 hides);
  }),
  (λ selected. ((on_left number).1 selected.reached, (λ is. selected.shown ((on_right number).0 is)))),
)

-- a commit is selected or isn't
pub selected_or_not : (nodes : Nodes) (tips hidden : List ℕ) (left right : List Bool) → HasMarks nodes tips left
    → HasMarks nodes hidden right → (number : ℕ)
    → IsSelected (graph_at nodes) tips hidden number ⊎ (¬ IsSelected (graph_at nodes) tips hidden number)
selected_or_not nodes tips hidden left right on_left on_right number =
    let marks = selected_by_marks nodes tips hidden left right on_left on_right number in
    elim (marked_or_not left number) [
      | inl is ↦ elim (marked_or_not right number) [
        | inl hides ↦ inr (λ selected. (marks.1 selected).1 hides)
        | inr none ↦ inl (marks.0 (is, none))
      ]
      | inr none ↦ inr (λ selected. none (marks.1 selected).0)
    ]

-- ---- bottoms

-- a selected commit that is read and reaches no bottom
record ReachesNone (R : Graph ℕ) (tips hidden : List ℕ) (id : ℕ) : Type 0 where
  pub read : IsRead R id
  pub selected : IsSelected R tips hidden id
  pub none : (bottom : ℕ) → IsBottom R tips hidden bottom → ¬ Reaches R id bottom

-- such a commit has such a parent
parent_reaches_none : (nodes : Nodes) (tips hidden : List ℕ) (left right : List Bool) → HasMarks nodes tips left
    → HasMarks nodes hidden right
    → ((id : ℕ) → IsWanted (graph_at nodes) tips hidden id → IsReachedFrom (graph_at nodes) hidden id) → (id : ℕ)
    → ReachesNone (graph_at nodes) tips hidden id
    → (parent : ℕ) × HasAncestor (graph_at nodes) id parent × ReachesNone (graph_at nodes) tips hidden parent
parent_reaches_none nodes tips hidden left right on_left on_right hides id is =
    let R : Graph ℕ = graph_at nodes in
    let node = is.read.0 in
    elim (some_or_none (IsSelected R tips hidden)
    (selected_or_not nodes tips hidden left right on_left on_right) node.parents) [
      | inl found ↦
          let parent = found.0 in
          let has : HasParent R id parent = record { node = node; named = is.read.1; listed = found.1 } in (
            parent,
            step_reaches R id parent parent has (reaches_itself R parent),
            record {
              read = elim (read_or_not nodes parent) [
                | inl read ↦ read
                | inr unread ↦ absurd (found.2.shown (hides parent
                    (record { unread = unread; reached = inl found.2.reached })))
              ];
              selected = found.2;
              none = λ bottom is_bottom path. is.none bottom is_bottom
                  (reaches_transitively R id parent bottom (reaches_parent R id parent has) path);
            },
          )
      | inr none ↦ absurd (is.none id
          (record {
            read = is.read;
            selected = is.selected;
            last = λ parent has selected. none parent
                (subst (λ (n : NodeView ℕ). Contains n.parents parent)
                (graph_at_is_functional nodes id has.node node has.named is.read.1) has.listed)
                selected;
          })
          (reaches_itself R id))
    ]

-- without a cycle, no selected commit that is read reaches no bottom
pub bottoms_are_reached : (nodes : Nodes) (tips hidden : List ℕ) (left right : List Bool) → HasMarks nodes tips left
    → HasMarks nodes hidden right → IsAcyclic (graph_at nodes)
    → ((id : ℕ) → IsWanted (graph_at nodes) tips hidden id → IsReachedFrom (graph_at nodes) hidden id)
    → HaveBottoms (graph_at nodes) tips hidden
bottoms_are_reached nodes tips hidden left right on_left on_right acyclic hides id read selected none =
    let R : Graph ℕ = graph_at nodes in
    let cycle = cycle_from_successors (HasAncestor R) (ReachesNone R tips hidden) (length nodes)
    (λ a b c first second. ancestor_reaches R a b c first (ancestor_is_reached R b c second))
    (λ v is. slice_get_within nodes v (Some is.read.0) is.read.1)
    (parent_reaches_none nodes tips hidden left right on_left on_right hides)
    id (record { read = read; selected = selected; none = none }) in
    acyclic cycle.0 cycle.2

-- a part of a graph without a cycle has none
pub included_is_acyclic : {V : Type 0} (R G : Graph V) → IsIncluded R G → IsAcyclic G → IsAcyclic R
included_is_acyclic R G included acyclic id cycle =
    acyclic id (cycle.0, includes_path R G included (suc cycle.0) id id cycle.1)

-- where a walk over numbers is settled, exactly the selected commits of the larger graph are read and selected
pub settled_numbers_are_exact : (nodes : Nodes) (G : Graph ℕ) (tips hidden : List ℕ) (left right : List Bool)
    → IsIncluded (graph_at nodes) G → IsFunctional G → IsAcyclic G → HasMarks nodes tips left
    → HasMarks nodes hidden right → IsSettledWalk (graph_at nodes) tips hidden → (id : ℕ)
    → (IsRead (graph_at nodes) id × IsSelected (graph_at nodes) tips hidden id) ↔ IsSelected G tips hidden id
settled_numbers_are_exact nodes G tips hidden left right included functional acyclic on_left on_right settled =
    settled_walk_is_exact (graph_at nodes) G tips hidden included functional acyclic (read_or_not nodes)
    (bottoms_are_reached nodes tips hidden left right on_left on_right
    (included_is_acyclic (graph_at nodes) G included acyclic) settled.hides)
    settled

-- How marks go from a commit to what it reaches.
use Rattle.std.proofs.Common.{◌≡◌, ◌⊎◌, ◌↔◌, ◌+◌, ◌<◌, ◌++◌, ℕ, zero, suc, Bool, true, false, List, [], ◌∷◌, Option, Some, None, Contains, length, get_or, refl}
use Rattle.std.proofs.Common.{subst, sym, ap, ◌∙◌, inl, inr, arith, length-append}
use Rattle.std.specs.List.{slice_get}
use Rattle.std.proofs.Math.ListN.{set}
use Rattle.std.proofs.lemmas.List.Elements.{Contains-append_cases, Contains-append_left, Contains-append_right, Contains-push, Contains-push_cases}
use Rattle.gixobj_walks_graph.specs.Graph.{HasParent, NodeView, LeadsTo, Reaches}
use Rattle.gixobj_walks_graph.specs.Numbered.{IsClosed, IsMarked, Nodes, graph_at, parents_at, parents_in}
use Rattle.gixobj_walks_marks.specs.Spreading.{Spreads}
use Rattle.gixobj_walks_marks.proofs.Marked.{each_contained, from_each_contained, marked_within, nothing_contained, one_contained, one_contains, read_marked}
use Rattle.gixobj_walks_marks.proofs.Marked.{set_cases, set_keeps, slice_get-set_same, unmarked_set}
use Rattle.gixobj_walks_marks.proofs.Paths.{reaches_itself, reaches_parent, reaches_transitively}

-- ---- one step

-- a number that was not marked is marked and pushed on the stack
pub spreads_to_unmarked : (marked : List Bool) (stack new_stack : List ℕ) (i : ℕ) → i < length marked
    → get_or marked i false ≡ false → new_stack ≡ stack ++ i ∷ []
    → Spreads (i ∷ []) marked (set marked i true) stack new_stack
spreads_to_unmarked marked stack new_stack i inside none pushed = record {
  marks = λ number. (
    (λ is. elim (set_cases marked i number is) [
      | inl before ↦ inl before
      | inr same ↦ inr (subst (λ (n : ℕ). Contains (i ∷ []) n) same (one_contains i))
    ]),
    (λ either. elim either [
      | inl before ↦ set_keeps marked i number inside before
      | inr has ↦ subst (λ (n : ℕ). IsMarked (set marked i true) n) (one_contained i number has)
          (slice_get-set_same marked i true inside)
    ]),
  );
  waits = λ number is. elim (set_cases marked i number is) [
    | inl before ↦ inl before
    | inr same ↦ inr (subst (λ (n : ℕ). Contains new_stack n) same
        (subst (λ (xs : List ℕ). Contains xs i) (sym pushed) (Contains-push stack i)))
  ];
  keeps = λ number has. subst (λ (xs : List ℕ). Contains xs number) (sym pushed)
      (Contains-append_left stack (i ∷ []) number has);
  adds = λ number has.
      elim (Contains-push_cases stack i number (subst (λ (xs : List ℕ). Contains xs number) pushed has)) [
        | inl before ↦ inl before
        | inr same ↦ inr (subst (λ (n : ℕ). IsMarked (set marked i true) n) same
            (slice_get-set_same marked i true inside))
      ];
  once =
      let longer : length new_stack ≡ length stack + 1 = ap length pushed ∙ length-append stack (i ∷ []) in
      omega (arith, longer, unmarked_set marked i inside none);
}

-- a number that is marked stays so
pub spreads_to_marked : (marked : List Bool) (stack : List ℕ) (i : ℕ) → i < length marked
    → get_or marked i false ≡ true → Spreads (i ∷ []) marked marked stack stack
spreads_to_marked marked stack i inside is = record {
  marks = λ number. (
    (λ before. inl before),
    (λ either. elim either [
      | inl before ↦ before
      | inr has ↦ subst (λ (n : ℕ). IsMarked marked n) (one_contained i number has) (read_marked marked i inside is)
    ]),
  );
  waits = λ number before. inl before;
  keeps = λ number has. has;
  adds = λ number has. inl has;
  once = refl;
}

-- one step after the other
pub spreads_on : (xs ys : List ℕ) (old middle new : List Bool) (old_stack middle_stack new_stack : List ℕ)
    → Spreads xs old middle old_stack middle_stack → Spreads ys middle new middle_stack new_stack
    → Spreads (xs ++ ys) old new old_stack new_stack
spreads_on xs ys old middle new old_stack middle_stack new_stack first second = record {
  marks = λ number. (
    (λ is. elim ((second.marks number).0 is) [
      | inl between ↦ elim ((first.marks number).0 between) [
        | inl before ↦ inl before
        | inr has ↦ inr (Contains-append_left xs ys number has)
      ]
      | inr has ↦ inr (Contains-append_right xs ys number has)
    ]),
    (λ either. elim either [
      | inl before ↦ (second.marks number).1 (inl ((first.marks number).1 (inl before)))
      | inr has ↦ elim (Contains-append_cases xs ys number has) [
        | inl here ↦ (second.marks number).1 (inl ((first.marks number).1 (inr here)))
        | inr there ↦ (second.marks number).1 (inr there)
      ]
    ]),
  );
  waits = λ number is. elim (second.waits number is) [
    | inl between ↦ elim (first.waits number between) [
      | inl before ↦ inl before
      | inr has ↦ inr (second.keeps number has)
    ]
    | inr has ↦ inr has
  ];
  keeps = λ number has. second.keeps number (first.keeps number has);
  adds = λ number has. elim (second.adds number has) [
    | inl between ↦ elim (first.adds number between) [
      | inl before ↦ inl before
      | inr is ↦ inr ((second.marks number).1 (inl is))
    ]
    | inr is ↦ inr is
  ];
  once = second.once ∙ first.once;
}

-- ---- all steps

-- while marks spread from a commit: what is marked is reached or was marked before, and each marked commit waits on the
-- stack or has marked parents
pub record IsSpreading (nodes : Nodes) (old : List Bool) (from : ℕ) (marked : List Bool) (stack : List ℕ) : Type 0
  where
    pub kept : (number : ℕ) → IsMarked old number → IsMarked marked number
    pub begun : IsMarked marked from
    pub sound : (number : ℕ) → IsMarked marked number → IsMarked old number ⊎ Reaches (graph_at nodes) from number
    pub waiting : (number : ℕ) → Contains stack number → IsMarked marked number
    pub spread : (number : ℕ) (node : NodeView ℕ) → graph_at nodes number node → IsMarked marked number
        → Contains stack number ⊎ ((parent : ℕ) → Contains node.parents parent → IsMarked marked parent)

-- the marks have begun to spread from a commit that was not marked
pub spreading_begins : (nodes : Nodes) (old marked : List Bool) (from : ℕ) (stack : List ℕ) → IsClosed nodes old
    → Spreads (from ∷ []) old marked [] stack → IsSpreading nodes old from marked stack
spreading_begins nodes old marked from stack closed step = record {
  kept = λ number before. (step.marks number).1 (inl before);
  begun = (step.marks from).1 (inr (one_contains from));
  sound = λ number is. elim ((step.marks number).0 is) [
    | inl before ↦ inl before
    | inr has ↦ inr (subst (λ (n : ℕ). Reaches (graph_at nodes) from n) (one_contained from number has)
        (reaches_itself (graph_at nodes) from))
  ];
  waiting = λ number has. elim (step.adds number has) [
    | inl none ↦ absurd (nothing_contained number none)
    | inr is ↦ is
  ];
  spread = λ number node named is. elim (step.waits number is) [
    | inl before ↦ inr (λ parent has. (step.marks parent).1 (inl
        (each_contained (IsMarked old) node.parents parent (closed number node named before) has)))
    | inr has ↦ inl has
  ];
}

-- a commit with a parent, by numbers
pub parents_at_named : (nodes : Nodes) (number : ℕ) (node : NodeView ℕ) → graph_at nodes number node
    → parents_at nodes number ≡ node.parents
parents_at_named nodes number node named = ap parents_in named

-- a listed parent is the parent of a commit that is read
parent_of_read : (entry : Option (Option (NodeView ℕ))) (parent : ℕ) → Contains (parents_in entry) parent
    → (node : NodeView ℕ) × (entry ≡ Some (Some node)) × Contains node.parents parent
parent_of_read (Some (Some node)) parent has = (node, refl, has)
parent_of_read (Some None) parent has = absurd (nothing_contained parent has)
parent_of_read None parent has = absurd (nothing_contained parent has)

-- a listed parent is a parent in the graph
pub parents_at_has : (nodes : Nodes) (number parent : ℕ) → Contains (parents_at nodes number) parent
    → HasParent (graph_at nodes) number parent
parents_at_has nodes number parent has =
    let read = parent_of_read (slice_get nodes number) parent has in
    record { node = read.0; named = read.1; listed = read.2 }

-- the marks have spread to the parents of the last commit of the stack
pub spreading_goes_on : (nodes : Nodes) (old marked new : List Bool) (from number : ℕ)
    (waiting stack new_stack : List ℕ)
    → IsClosed nodes old → waiting ≡ stack ++ number ∷ [] → IsSpreading nodes old from marked waiting
    → Spreads (parents_at nodes number) marked new stack new_stack → IsSpreading nodes old from new new_stack
spreading_goes_on nodes old marked new from number waiting stack new_stack closed popped here step =
    let here_is : IsMarked marked number = here.waiting number
    (subst (λ (xs : List ℕ). Contains xs number) (sym popped) (Contains-push stack number)) in
    record {
      kept = λ other before. (step.marks other).1 (inl (here.kept other before));
      begun = (step.marks from).1 (inl here.begun);
      sound = λ other is. elim ((step.marks other).0 is) [
        | inl before ↦ here.sound other before
        | inr has ↦
            let parent = parents_at_has nodes number other has in
            elim (here.sound number here_is) [
              | inl before ↦ inl (each_contained (IsMarked old) parent.node.parents other
                  (closed number parent.node parent.named before) parent.listed)
              | inr path ↦ inr (reaches_transitively (graph_at nodes) from number other path
                  (reaches_parent (graph_at nodes) number other parent))
            ]
      ];
      waiting = λ other has. elim (step.adds other has) [
        | inl before ↦ (step.marks other).1 (inl (here.waiting other
            (subst (λ (xs : List ℕ). Contains xs other) (sym popped)
            (Contains-append_left stack (number ∷ []) other before))))
        | inr is ↦ is
      ];
      spread = λ other node named is. elim (step.waits other is) [
        | inl before ↦ elim (here.spread other node named before) [
          | inl has ↦ elim (Contains-push_cases stack number other
              (subst (λ (xs : List ℕ). Contains xs other) popped has)) [
                | inl waits ↦ inl (step.keeps other waits)
                | inr same ↦ inr (λ parent listed. (step.marks parent).1 (inr
                    (subst (λ (xs : List ℕ). Contains xs parent)
                    (sym (subst (λ (n : ℕ). parents_at nodes n ≡ node.parents) (sym same)
                    (parents_at_named nodes other node named)))
                    listed)))
              ]
          | inr parents ↦ inr (λ parent listed. (step.marks parent).1 (inl (parents parent listed)))
        ]
        | inr has ↦ inl has
      ];
    }

-- marks that are closed go with each path
pub closed_path : (nodes : Nodes) (marked : List Bool) → IsClosed nodes marked → (n : ℕ) (from to : ℕ)
    → IsMarked marked from → LeadsTo (graph_at nodes) n from to → IsMarked marked to
closed_path nodes marked closed zero from to is here = subst (λ (v : ℕ). IsMarked marked v) here is
closed_path nodes marked closed (suc n) from to is path = closed_path nodes marked closed n path.0 to
    (each_contained (IsMarked marked) path.1.node.parents path.0 (closed from path.1.node path.1.named is)
    path.1.listed)
    path.2

-- marks that wait nowhere are closed
pub spreading_is_closed : (nodes : Nodes) (old marked : List Bool) (from : ℕ) → IsSpreading nodes old from marked []
    → IsClosed nodes marked
spreading_is_closed nodes old marked from here = λ number node named is.
    from_each_contained (IsMarked marked) node.parents
    (elim (here.spread number node named is) [
      | inl none ↦ absurd (nothing_contained number none)
      | inr parents ↦ parents
    ])

-- at the end exactly what was marked or is reached is marked
pub spreading_ends : (nodes : Nodes) (old marked : List Bool) (from : ℕ) → IsSpreading nodes old from marked []
    → (number : ℕ) → IsMarked marked number ↔ (IsMarked old number ⊎ Reaches (graph_at nodes) from number)
spreading_ends nodes old marked from here number = (
  (λ is. here.sound number is),
  (λ either. elim either [
    | inl before ↦ here.kept number before
    | inr path ↦ closed_path nodes marked (spreading_is_closed nodes old marked from here) path.0 from number
        here.begun path.1
  ]),
)

-- the last number of the stack is inside
pub top_is_inside : (nodes : Nodes) (old marked : List Bool) (from number : ℕ) (waiting stack : List ℕ)
    → waiting ≡ stack ++ number ∷ [] → IsSpreading nodes old from marked waiting → number < length marked
top_is_inside nodes old marked from number waiting stack popped here = marked_within marked number
    (here.waiting number (subst (λ (xs : List ℕ). Contains xs number) (sym popped) (Contains-push stack number)))

-- a commit that is marked already reaches marked ones only
pub marked_already : (nodes : Nodes) (marked : List Bool) (from : ℕ) → IsClosed nodes marked → from < length marked
    → get_or marked from false ≡ true → (number : ℕ)
    → IsMarked marked number ↔ (IsMarked marked number ⊎ Reaches (graph_at nodes) from number)
marked_already nodes marked from closed inside is number = (
  (λ before. inl before),
  (λ either. elim either [
    | inl before ↦ before
    | inr path ↦ closed_path nodes marked closed path.0 from number (read_marked marked from inside is) path.1
  ]),
)

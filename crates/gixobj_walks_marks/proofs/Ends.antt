-- The two ends of a walk: everything is read, or what is not read changes nothing.
use Rattle.std.proofs.Common.{◌⊎◌, ◌↔◌, ℕ, zero, suc, List, subst, sym, inl, inr}
use Rattle.gixobj_walks_graph.specs.Bases.{IsCommon, IsMergeBase}
use Rattle.gixobj_walks_graph.specs.Graph.{Graph, HasAncestor, IsAcyclic, IsFunctional, IsIncluded, IsRead, IsReachedFrom, LeadsTo, Reaches}
use Rattle.gixobj_walks_graph.specs.Walks.{IsSelected}
use Rattle.gixobj_walks_marks.specs.Settled.{IsBottom, IsCandidate, IsComplete, IsSettledBases, IsSettledWalk, IsWanted, IsWantedBase}
use Rattle.gixobj_walks_marks.proofs.Paths.{ancestor_has_child, ancestor_is_reached, ancestor_reaches, first_unread, includes_parent, includes_reached}
use Rattle.gixobj_walks_marks.proofs.Paths.{includes_reached_from, reached_from_reaches, reaches_ancestor, reaches_cases, reaches_itself, reaches_transitively}
use Rattle.gixobj_walks_marks.proofs.Paths.{read_has_parent, step_reaches}

-- ---- the complete end

-- a path of the larger graph that begins at a commit which the starts reach
complete_path : {V : Type 0} (R G : Graph V) (starts : List V) → IsIncluded R G → IsFunctional G
    → IsComplete R starts → (n : ℕ) (from to : V) → IsReachedFrom R starts from → LeadsTo G n from to
    → IsReachedFrom R starts to
complete_path {V} R G starts included functional complete zero from to reached here =
    subst (λ (v : V). IsReachedFrom R starts v) here reached
complete_path R G starts included functional complete (suc n) from to reached path =
    let has = read_has_parent R G included functional from path.0 (complete from reached) path.1 in
    complete_path R G starts included functional complete n path.0 to
    (reached_from_reaches R starts from path.0 reached
    (ancestor_is_reached R from path.0 (step_reaches R from path.0 path.0 has (reaches_itself R path.0))))
    path.2

-- where each commit that the starts reach is read, they reach the same commits in each graph with those
pub complete_is_exact : {V : Type 0} (R G : Graph V) (starts : List V) → IsIncluded R G → IsFunctional G
    → IsComplete R starts → (id : V) → IsReachedFrom R starts id ↔ IsReachedFrom G starts id
complete_is_exact R G starts included functional complete id = (
  (λ reached. includes_reached_from R G included starts id reached),
  (λ reached. complete_path R G starts included functional complete reached.2.0 reached.0 id
      (reached.0, reached.1, reaches_itself R reached.0) reached.2.1),
)

-- ---- the early end of a walk

-- no selected commit that is read reaches no bottom
abbrev pub HaveBottoms : {V : Type 0} → Graph V → List V → List V → Type 0
HaveBottoms {V} R tips hidden = (id : V) → IsRead R id → IsSelected R tips hidden id
    → ¬ ((bottom : V) → IsBottom R tips hidden bottom → ¬ Reaches R id bottom)

-- a commit that is read is not the unread one, so a path between them has a step
unread_has_ancestor : {V : Type 0} (R G : Graph V) (unread id : V) → (¬ IsRead R unread) → IsRead R id
    → Reaches G unread id → HasAncestor G unread id
unread_has_ancestor {V} R G unread id not_read read path =
    elim (reaches_cases G path.0 unread id path.1) [
      | inl same ↦ absurd (not_read (subst (λ (v : V). IsRead R v) (sym same) read))
      | inr ancestor ↦ ancestor
    ]

-- an unread commit reaches no selected one that is read: below it is a bottom, which reaches the unread one
settled_unread_reaches_none : {V : Type 0} (R G : Graph V) (tips hidden : List V) → IsIncluded R G → IsAcyclic G
    → HaveBottoms R tips hidden → IsSettledWalk R tips hidden → (unread id : V) → IsWanted R tips hidden unread
    → IsRead R id → IsSelected R tips hidden id → ¬ Reaches G unread id
settled_unread_reaches_none R G tips hidden included acyclic bottoms settled unread id wanted read selected path =
    bottoms id read selected (λ bottom is below.
    acyclic unread (ancestor_reaches G unread id unread
    (unread_has_ancestor R G unread id wanted.unread read path)
    (reaches_transitively G id bottom unread (includes_reached R G included id bottom below)
    (includes_reached R G included bottom unread (settled.below unread bottom wanted is)))))

-- a hidden commit of the larger graph is known to be hidden, if it is selected otherwise
settled_hides : {V : Type 0} (R G : Graph V) (tips hidden : List V) → IsIncluded R G → IsFunctional G → IsAcyclic G
    → ((id : V) → IsRead R id ⊎ (¬ IsRead R id)) → HaveBottoms R tips hidden → IsSettledWalk R tips hidden → (id : V)
    → IsRead R id → IsSelected R tips hidden id → ¬ IsReachedFrom G hidden id
settled_hides R G tips hidden included functional acyclic decide bottoms settled id read selected reached =
    elim (first_unread R G included functional decide reached.2.0 reached.0 id reached.2.1) [
      | inl known ↦ selected.shown (reached.0, reached.1, known.path)
      | inr first ↦ settled_unread_reaches_none R G tips hidden included acyclic bottoms settled first.id id
          (record { unread = first.unread; reached = inr (reached.0, reached.1, first.path) }) read selected first.rest
    ]

-- a selected commit of the larger graph is read, and a tip is known to reach it
settled_reads : {V : Type 0} (R G : Graph V) (tips hidden : List V) → IsIncluded R G → IsFunctional G
    → ((id : V) → IsRead R id ⊎ (¬ IsRead R id)) → IsSettledWalk R tips hidden → (id : V)
    → IsSelected G tips hidden id → IsRead R id × IsReachedFrom R tips id
settled_reads R G tips hidden included functional decide settled id selected =
    let tip = selected.reached in
    elim (first_unread R G included functional decide tip.2.0 tip.0 id tip.2.1) [
      | inl known ↦ (known.read, (tip.0, tip.1, known.path))
      | inr first ↦ absurd (selected.shown (reached_from_reaches G hidden first.id id
          (includes_reached_from R G included hidden first.id (settled.hides first.id
          (record { unread = first.unread; reached = inl (tip.0, tip.1, first.path) })))
          first.rest))
    ]

-- where a walk is settled, exactly the selected commits of the larger graph are read and selected
pub settled_walk_is_exact : {V : Type 0} (R G : Graph V) (tips hidden : List V) → IsIncluded R G → IsFunctional G
    → IsAcyclic G → ((id : V) → IsRead R id ⊎ (¬ IsRead R id)) → HaveBottoms R tips hidden
    → IsSettledWalk R tips hidden → (id : V)
    → (IsRead R id × IsSelected R tips hidden id) ↔ IsSelected G tips hidden id
settled_walk_is_exact R G tips hidden included functional acyclic decide bottoms settled id = (
  (λ known. record {
    reached = includes_reached_from R G included tips id known.1.reached;
    shown = settled_hides R G tips hidden included functional acyclic decide bottoms settled id known.0 known.1;
  }),
  (λ selected.
      let known = settled_reads R G tips hidden included functional decide settled id selected in (
        known.0,
        record {
          reached = known.1;
          shown = λ hides. selected.shown (includes_reached_from R G included hidden id hides);
        },
      )),
)

-- ---- the early end of a search for merge bases

-- what both commits reach, both reach in a larger graph
includes_common : {V : Type 0} (R G : Graph V) → IsIncluded R G → (one other id : V) → IsCommon R one other id
    → IsCommon G one other id
includes_common R G included one other id common = record {
  from_one = includes_reached R G included one id common.from_one;
  from_other = includes_reached R G included other id common.from_other;
}

-- an unread commit has no candidate as an ancestor: the candidate reaches it
settled_unread_has_no_base : {V : Type 0} (R G : Graph V) (one other : V) → IsIncluded R G → IsAcyclic G
    → IsSettledBases R one other → (unread candidate : V) → IsWantedBase R one other unread
    → IsCandidate R one other candidate → ¬ HasAncestor G unread candidate
settled_unread_has_no_base R G one other included acyclic settled unread candidate wanted best path =
    acyclic unread (ancestor_reaches G unread candidate unread path
    (includes_reached R G included candidate unread (settled.below unread candidate wanted best)))

-- a commit with a candidate as an ancestor is known to be reached
settled_finds : {V : Type 0} (R G : Graph V) (one other : V) → IsIncluded R G → IsFunctional G → IsAcyclic G
    → ((id : V) → IsRead R id ⊎ (¬ IsRead R id)) → IsSettledBases R one other → (candidate : V)
    → IsCandidate R one other candidate → (start id : V)
    → ((unread : V) → Reaches R start unread → Reaches R one unread ⊎ Reaches R other unread)
    → Reaches G start id → HasAncestor G id candidate → Reaches R start id
settled_finds R G one other included functional acyclic decide settled candidate best start id known path below =
    elim (first_unread R G included functional decide path.0 start id path.1) [
      | inl found ↦ found.path
      | inr first ↦ absurd (settled_unread_has_no_base R G one other included acyclic settled first.id candidate
          (record { unread = first.unread; reached = known first.id first.path }) best
          (reaches_ancestor G first.id id candidate first.rest below))
    ]

-- no common ancestor of the larger graph has a candidate as an ancestor: the last commit before the candidate would be
-- known as a common ancestor
settled_is_best : {V : Type 0} (R G : Graph V) (one other : V) → IsIncluded R G → IsFunctional G → IsAcyclic G
    → ((id : V) → IsRead R id ⊎ (¬ IsRead R id)) → IsSettledBases R one other → (candidate : V)
    → IsCandidate R one other candidate → (better : V) → IsCommon G one other better
    → ¬ HasAncestor G better candidate
settled_is_best {V} R G one other included functional acyclic decide settled candidate best better common below =
    let child = ancestor_has_child G below.0 better candidate below.1 in
    let is_child : HasAncestor G child.0 candidate = step_reaches G child.0 candidate candidate child.2
    (reaches_itself G candidate) in
    let from_one : Reaches R one child.0 = settled_finds R G one other included functional acyclic decide settled
    candidate best one child.0 (λ (unread : V) (path : Reaches R one unread). inl path)
    (reaches_transitively G one better child.0 common.from_one child.1) is_child in
    let from_other : Reaches R other child.0 = settled_finds R G one other included functional acyclic decide settled
    candidate best other child.0 (λ (unread : V) (path : Reaches R other unread). inr path)
    (reaches_transitively G other better child.0 common.from_other child.1) is_child in
    elim (decide child.0) [
      | inl read ↦ best.best child.0 (record { from_one = from_one; from_other = from_other })
          (read_has_parent R G included functional child.0 candidate read child.2)
      | inr unread ↦ settled_unread_has_no_base R G one other included acyclic settled child.0 candidate
          (record { unread = unread; reached = inl from_one }) best is_child
    ]

-- a path to a merge base of the larger graph is known: an unread commit before it would be a better common ancestor
settled_reaches_base : {V : Type 0} (R G : Graph V) (one other : V) → IsIncluded R G → IsFunctional G
    → ((id : V) → IsRead R id ⊎ (¬ IsRead R id)) → IsSettledBases R one other → (id : V)
    → IsMergeBase G one other id → (start : V)
    → ((unread : V) → Reaches R start unread → Reaches R one unread ⊎ Reaches R other unread)
    → Reaches G start id → Reaches R start id
settled_reaches_base {V} R G one other included functional decide settled id base start known path =
    elim (first_unread R G included functional decide path.0 start id path.1) [
      | inl found ↦ found.path
      | inr first ↦ elim (reaches_cases G first.rest.0 first.id id first.rest.1) [
        | inl same ↦ subst (λ (v : V). Reaches R start v) same first.path
        | inr ancestor ↦ absurd (base.best first.id
            (includes_common R G included one other first.id (settled.common first.id
            (record { unread = first.unread; reached = known first.id first.path })))
            ancestor)
      ]
    ]

-- a candidate is a merge base of the same graph, since each common ancestor with an ancestor has a common child of it
pub candidate_is_base : {V : Type 0} (R : Graph V) (one other id : V) → IsCandidate R one other id ↔ IsMergeBase R one other id
candidate_is_base R one other id = (
  (λ is. record {
    common = is.common;
    best = λ better common path.
        let last = ancestor_has_child R path.0 better id path.1 in
        let child : IsCommon R one other last.0 = record {
          from_one = reaches_transitively R one better last.0 common.from_one last.1;
          from_other = reaches_transitively R other better last.0 common.from_other last.1;
        } in
        is.best last.0 child last.2;
  }),
  (λ is. record {
    common = is.common;
    best = λ child common edge. is.best child common (step_reaches R child id id edge (reaches_itself R id));
  }),
)

-- where a search is settled, exactly the merge bases of the larger graph are candidates
pub settled_bases_are_exact : {V : Type 0} (R G : Graph V) (one other : V) → IsIncluded R G → IsFunctional G
    → IsAcyclic G → ((id : V) → IsRead R id ⊎ (¬ IsRead R id)) → IsSettledBases R one other → (id : V)
    → IsCandidate R one other id ↔ IsMergeBase G one other id
settled_bases_are_exact {V} R G one other included functional acyclic decide settled id = (
  (λ best. record {
    common = includes_common R G included one other id best.common;
    best = settled_is_best R G one other included functional acyclic decide settled id best;
  }),
  (λ base. record {
    common = record {
      from_one = settled_reaches_base R G one other included functional decide settled id base one
          (λ (unread : V) (path : Reaches R one unread). inl path) base.common.from_one;
      from_other = settled_reaches_base R G one other included functional decide settled id base other
          (λ (unread : V) (path : Reaches R other unread). inr path) base.common.from_other;
    };
    best = λ child common has. base.best child (includes_common R G included one other child common)
        (step_reaches G child id id (includes_parent R G included child id has) (reaches_itself G id));
  }),
)

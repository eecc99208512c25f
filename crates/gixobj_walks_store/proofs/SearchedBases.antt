-- Merge bases of the commits that were given to a search are those of each graph with these commits.
use Rattle.std.proofs.Common.{◌≡◌, ◌∙◌, ◌⊎◌, ◌↔◌, ℕ, List, [], ◌∷◌, Option, None, Some, ap, ⊎_elim, inl, inr, refl, sym, subst}
use Rattle.std.specs.Prelude.{Contains}
use Rattle.std.specs.List.{AllByRecursion}
use Rattle.gixobj_hash.proofs.SameIds.{id_eq_or_ne}
use Rattle.gixobj_hash.specs.declared.hash.object_id.ObjectId.{ObjectId}
use Rattle.gixobj_walks_graph.specs.Bases.{AreMergeBases}
use Rattle.gixobj_walks_graph.specs.Graph.{Graph, IsAcyclic, IsFunctional, IsIncluded, IsRead, NodeView, Reaches}
use Rattle.gixobj_walks_marks.proofs.Ends.{candidate_is_base, settled_bases_are_exact}
use Rattle.gixobj_walks_marks.proofs.Paths.{reaches_itself, reaches_ancestor}
use Rattle.gixobj_walks_marks.specs.Settled.{IsSettledBases}
use Rattle.gixobj_walks.specs.Newest.{AreNewestFirst, ComesBefore}
use Rattle.gixobj_walks.specs.Search.{SearchView, searched_graph}
use Rattle.gixobj_walks.specs.Named.{AreOfEither, graph_of}
use Rattle.gixobj_walks_store.proofs.GivenWalks.{reached_parent}
use Rattle.gixobj_walks_store.specs.Reached.{IsReachedFromEither}

-- the search has these commits; it was given commits of the graph, and the two reach each commit that it knows
pub record IsSearchOver (G : Graph ObjectId) (one other : ObjectId) (search : SearchView) : Type 0 where
  pub one_is : search.one ≡ one
  pub other_is : search.other ≡ other
  pub included : IsIncluded (searched_graph search) G
  pub decided : (id : ObjectId) → IsRead (searched_graph search) id ⊎ (¬ IsRead (searched_graph search) id)
  pub reached : (id : ObjectId) → Contains search.ids id → IsReachedFromEither G (one ∷ []) (other ∷ []) id

pub search_over_begins : (G : Graph ObjectId) (one other : ObjectId) (search : SearchView) → search.one ≡ one → search.other ≡ other
    → ((id : ObjectId) (node : NodeView ObjectId) → ¬ searched_graph search id node) → AreOfEither search.ids (one ∷ []) (other ∷ [])
    → IsSearchOver G one other search
search_over_begins G one other search one_is other_is none known = record {
  one_is = one_is;
  other_is = other_is;
  included = λ id node given. absurd (none id node given);
  decided = λ id. inr (λ read. none id read.0 read.1);
  reached = λ id has. ⊎_elim
      (λ it. inl (id, it, reaches_itself G id))
      (λ it. inr (id, it, reaches_itself G id))
      (known id has);
}

-- ---- the order

module _ (R G : Graph ObjectId) (included : IsIncluded R G) where
  comes_before : (id later : ObjectId) → ComesBefore R id later → ComesBefore G id later
  comes_before id later it = record {
    node = it.node;
    other_node = it.other_node;
    named = included id it.node it.named;
    other_named = included later it.other_node it.other_named;
    order = it.order;
  }

  each_comes_before : (id : ObjectId) (ids : List ObjectId) → AllByRecursion (ComesBefore R id) ids → AllByRecursion (ComesBefore G id) ids
  each_comes_before id [] each = tt
  each_comes_before id (later ∷ ids) each = (comes_before id later each.0, each_comes_before id ids each.1)

  newest_first_in_larger : (ids : List ObjectId) → AreNewestFirst R ids → AreNewestFirst G ids
  newest_first_in_larger [] first = tt
  newest_first_in_larger (id ∷ ids) first = (each_comes_before id ids first.0, newest_first_in_larger ids first.1)

module _ (H : Graph ObjectId) where
  -- the commit that the id names, if it is read
  abbrev node_if_read : (id : ObjectId) → IsRead H id ⊎ (¬ IsRead H id) → Option (NodeView ObjectId)
  node_if_read id (inl read) = Some read.0
  node_if_read id (inr unread) = None

  is_node_if_read : IsFunctional H → (id : ObjectId) (node : NodeView ObjectId) (decided : IsRead H id ⊎ (¬ IsRead H id)) → H id node
      → node_if_read id decided ≡ Some node
  is_node_if_read functional id node (inl read) named = ap Some (functional id read.0 node read.1 named)
  is_node_if_read functional id node (inr unread) named = absurd (unread (node, named))

  some_injective : (node other : NodeView ObjectId) → Some node ≡ Some other → node ≡ other
  some_injective node other same = cc

  none_is_not_some : (node : NodeView ObjectId) → ¬ (None ≡ Some node)
  none_is_not_some node same = cc

  named_if_read : (id : ObjectId) (node : NodeView ObjectId) (decided : IsRead H id ⊎ (¬ IsRead H id))
      → node_if_read id decided ≡ Some node → H id node
  named_if_read id node (inl read) is = subst (λ (it : NodeView ObjectId). H id it) (some_injective read.0 node is) read.1
  named_if_read id node (inr unread) is = absurd (none_is_not_some node is)

module _ (G : Graph ObjectId) (one other : ObjectId) (search : SearchView) (is : IsSearchOver G one other search) where
  module _ (new : SearchView) (commit : ObjectId) (parents : List ObjectId) (seconds : ℕ) (same_one : new.one ≡ search.one)
      (same_other : new.other ≡ search.other)
      (given : (id : ObjectId) (it : NodeView ObjectId) → searched_graph new id it
      ↔ (searched_graph search id it ⊎ ((id ≡ commit) × (it ≡ record { parents = parents; seconds = seconds }))))
      (found : G commit (record { parents = parents; seconds = seconds }))
      (wanted : Contains search.ids commit) (known : AreOfEither new.ids search.ids parents) where
    found_as : (id : ObjectId) (it : NodeView ObjectId) → (id ≡ commit) × (it ≡ record { parents = parents; seconds = seconds })
        → G id it
    found_as id it here = subst (λ v. G v it) (sym here.0)
        (subst (λ (n : NodeView ObjectId). G commit n) (sym here.1) found)

    decided_more : (id : ObjectId) → IsRead (searched_graph new) id ⊎ (¬ IsRead (searched_graph new) id)
    decided_more id = ⊎_elim
        (λ same. inl (record { parents = parents; seconds = seconds }, (given id _).1 (inr (same, refl))))
        (λ different. ⊎_elim
        (λ read. inl (read.0, (given id read.0).1 (inl read.1)))
        (λ unread. inr (λ read. ⊎_elim (λ it. unread (read.0, it)) (λ here. different here.0) ((given id read.0).0 read.1)))
        (is.decided id))
        (id_eq_or_ne id commit)

    -- a commit that is wanted is looked up and inserted
    pub search_over_continues : IsSearchOver G one other new
    search_over_continues = record {
      one_is = same_one ∙ is.one_is;
      other_is = same_other ∙ is.other_is;
      included = λ id it in_new. ⊎_elim (λ before. is.included id it before) (λ here. found_as id it here) ((given id it).0 in_new);
      decided = decided_more;
      reached = λ id has. ⊎_elim
          (λ before. is.reached id before)
          (λ parent. reached_parent G (one ∷ []) (other ∷ []) commit id (is.reached commit wanted)
          (record { node = record { parents = parents; seconds = seconds }; named = found; listed = parent }))
          (known id has);
    }

  -- ---- the end

  with_commits : (H : Graph ObjectId) (ids : List ObjectId) → AreMergeBases H search.one search.other ids → AreMergeBases H one other ids
  with_commits H ids it = subst (λ o. AreMergeBases H o other ids) is.one_is
      (subst (λ o. AreMergeBases H search.one o ids) is.other_is it)

  pub bases_of_acyclic : IsFunctional G → IsSettledBases (searched_graph search) search.one search.other → (ids : List ObjectId)
      → AreMergeBases (searched_graph search) search.one search.other ids → IsAcyclic G → AreMergeBases G one other ids
  bases_of_acyclic functional settled ids bases acyclic = with_commits G ids (record {
    exact = λ id.
        let small = candidate_is_base (searched_graph search) search.one search.other id in
        let same = settled_bases_are_exact (searched_graph search) G search.one search.other is.included functional acyclic is.decided
        settled id in (
          (λ has. same.0 (small.1 ((bases.exact id).0 has))),
          (λ base. (bases.exact id).1 (small.0 (same.1 base))),
        );
    once = bases.once;
  })

  -- the commit that was given, or none
  abbrev commits : ObjectId → Option (NodeView ObjectId)
  commits id = node_if_read (searched_graph search) id (is.decided id)

  commits_are_of_graph : IsIncluded (graph_of commits) G
  commits_are_of_graph id node here = is.included id node (named_if_read (searched_graph search) id node (is.decided id) here)

  given_are_commits : IsFunctional G → IsIncluded (searched_graph search) (graph_of commits)
  given_are_commits functional id node given = is_node_if_read (searched_graph search)
      (λ id one other first second. functional id one other (is.included id one first) (is.included id other second)) id node
      (is.decided id) given

  pub newest_first_of_given : IsFunctional G → (ids : List ObjectId)
      → ((commits : ObjectId → Option (NodeView ObjectId)) → IsIncluded (searched_graph search) (graph_of commits)
      → AreNewestFirst (graph_of commits) ids) → AreNewestFirst G ids
  newest_first_of_given functional ids first = newest_first_in_larger (graph_of commits) G commits_are_of_graph ids
      (first commits (given_are_commits functional))

-- an ancestor is the merge base of it and its descendant
pub ancestor_by_bases : (G : Graph ObjectId) (ancestor commit : ObjectId) (bases : List ObjectId) → IsAcyclic G
    → AreMergeBases G ancestor commit bases → Contains bases ancestor ↔ Reaches G commit ancestor
ancestor_by_bases G ancestor commit bases acyclic are = (
  (λ has. ((are.exact ancestor).0 has).common.from_other),
  (λ path. (are.exact ancestor).1 (record {
    common = record { from_one = reaches_itself G ancestor; from_other = path };
    best = λ better common above. acyclic ancestor (reaches_ancestor G ancestor better ancestor common.from_one above);
  })),
)

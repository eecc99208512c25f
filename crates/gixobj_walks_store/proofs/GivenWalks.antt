-- A walk over the commits that were given to it is a walk over each graph with these commits.
use Rattle.std.proofs.Common.{◌≡◌, ◌∙◌, ◌⊎◌, ◌↔◌, ◌<◌, ℕ, suc, List, [], ⊎_elim, inl, inr, refl, sym, ap, subst, length, arith}
use Rattle.std.specs.Prelude.{Contains}
use Rattle.gixobj_hash.proofs.SameIds.{id_eq_or_ne}
use Rattle.gixobj_hash.specs.declared.hash.object_id.ObjectId.{ObjectId}
use Rattle.gixobj_walks_graph.specs.Graph.{Graph, HasParent, IsAcyclic, IsFunctional, IsIncluded, IsRead, IsReachedFrom, NodeView}
use Rattle.gixobj_walks_graph.specs.Walks.{IsSelected, IsWalk}
use Rattle.gixobj_walks_graph.specs.declared.order.Order.{Order}
use Rattle.gixobj_walks_marks.proofs.Paths.{includes_path, reached_from_reaches, reaches_itself, reaches_parent}
use Rattle.gixobj_walks_marks.specs.Settled.{IsSettledWalk}
use Rattle.gixobj_walks.proofs.WalkEnds.{walk_of_complete, walk_of_settled}
use Rattle.gixobj_walks.proofs.NamedPaths.{contained_of_position}
use Rattle.gixobj_walks.specs.Machine.{WalkView, given_graph}
use Rattle.gixobj_walks.specs.Named.{AreOfEither}
use Rattle.gixobj_walks_store.proofs.Bottoms.{bottoms_of_walk}
use Rattle.gixobj_walks_store.specs.Reached.{IsReachedFromEither}

-- the walk has these starts; it was given commits of the graph, and the starts reach each commit that it knows
pub record IsWalkOver (G : Graph ObjectId) (tips hidden : List ObjectId) (walk : WalkView) : Type 0 where
  pub tips_are : walk.tips ≡ tips
  pub hidden_are : walk.hidden ≡ hidden
  pub included : IsIncluded (given_graph walk) G
  pub decided : (id : ObjectId) → IsRead (given_graph walk) id ⊎ (¬ IsRead (given_graph walk) id)
  pub reached : (id : ObjectId) → Contains walk.ids id → IsReachedFromEither G tips hidden id

pub walk_over_begins : (G : Graph ObjectId) (tips hidden : List ObjectId) (walk : WalkView) → walk.tips ≡ tips → walk.hidden ≡ hidden
    → ((id : ObjectId) (node : NodeView ObjectId) → ¬ given_graph walk id node) → AreOfEither walk.ids tips hidden
    → IsWalkOver G tips hidden walk
walk_over_begins G tips hidden walk tips_are hidden_are none known = record {
  tips_are = tips_are;
  hidden_are = hidden_are;
  included = λ id node given. absurd (none id node given);
  decided = λ id. inr (λ read. none id read.0 read.1);
  reached = λ id has. ⊎_elim
      (λ it. inl (id, it, reaches_itself G id))
      (λ it. inr (id, it, reaches_itself G id))
      (known id has);
}

pub reached_parent : (G : Graph ObjectId) (tips hidden : List ObjectId) (child parent : ObjectId) → IsReachedFromEither G tips hidden child
    → HasParent G child parent → IsReachedFromEither G tips hidden parent
reached_parent G tips hidden child parent reached edge = ⊎_elim
    (λ it. inl (reached_from_reaches G tips child parent it (reaches_parent G child parent edge)))
    (λ it. inr (reached_from_reaches G hidden child parent it (reaches_parent G child parent edge)))
    reached

module _ (G : Graph ObjectId) (tips hidden : List ObjectId) (walk : WalkView) (is : IsWalkOver G tips hidden walk) where
  module _ (new : WalkView) (commit : ObjectId) (parents : List ObjectId) (seconds : ℕ) (same_tips : new.tips ≡ walk.tips)
      (same_hidden : new.hidden ≡ walk.hidden)
      (given : (id : ObjectId) (it : NodeView ObjectId) → given_graph new id it
      ↔ (given_graph walk id it ⊎ ((id ≡ commit) × (it ≡ record { parents = parents; seconds = seconds }))))
      (found : G commit (record { parents = parents; seconds = seconds }))
      (wanted : Contains walk.ids commit) (known : AreOfEither new.ids walk.ids parents) where
    found_as : (id : ObjectId) (it : NodeView ObjectId) → (id ≡ commit) × (it ≡ record { parents = parents; seconds = seconds })
        → G id it
    found_as id it here = subst (λ v. G v it) (sym here.0)
        (subst (λ (n : NodeView ObjectId). G commit n) (sym here.1) found)

    decided_more : (id : ObjectId) → IsRead (given_graph new) id ⊎ (¬ IsRead (given_graph new) id)
    decided_more id = ⊎_elim
        (λ same. inl (record { parents = parents; seconds = seconds }, (given id _).1 (inr (same, refl))))
        (λ other. ⊎_elim
        (λ read. inl (read.0, (given id read.0).1 (inl read.1)))
        (λ unread. inr (λ read. ⊎_elim (λ it. unread (read.0, it)) (λ here. other here.0) ((given id read.0).0 read.1)))
        (is.decided id))
        (id_eq_or_ne id commit)

    -- a commit that is wanted is looked up and inserted
    pub walk_over_continues : IsWalkOver G tips hidden new
    walk_over_continues = record {
      tips_are = same_tips ∙ is.tips_are;
      hidden_are = same_hidden ∙ is.hidden_are;
      included = λ id it in_new. ⊎_elim (λ before. is.included id it before) (λ here. found_as id it here) ((given id it).0 in_new);
      decided = decided_more;
      reached = λ id has. ⊎_elim
          (λ before. is.reached id before)
          (λ parent. reached_parent G tips hidden commit id (is.reached commit wanted)
          (record { node = record { parents = parents; seconds = seconds }; named = found; listed = parent }))
          (known id has);
    }

  -- the starts reach what was given
  pub given_is_reached : (id : ObjectId) (node : NodeView ObjectId) → given_graph walk id node
      → IsReachedFromEither G tips hidden id
  given_is_reached id node given = is.reached id (contained_of_position walk.ids id given.number given.name)

  -- ---- ends

  with_starts : (H : Graph ObjectId) (order : Order) (ids : List ObjectId) → IsWalk H order walk.tips walk.hidden ids
      → IsWalk H order tips hidden ids
  with_starts H order ids it = subst (λ ts. IsWalk H order ts hidden ids) is.tips_are
      (subst (λ hs. IsWalk H order walk.tips hs ids) is.hidden_are it)

  module _ (functional : IsFunctional G) (settled : IsSettledWalk (given_graph walk) walk.tips walk.hidden) (order : Order) (ids : List ObjectId)
      (lists : IsWalk (given_graph walk) order walk.tips walk.hidden ids) where
    selected_is_read : (id : ObjectId) → IsSelected (given_graph walk) walk.tips walk.hidden id → IsRead (given_graph walk) id
    selected_is_read id selected = ⊎_elim (λ read. read)
        (λ unread. absurd (selected.shown (settled.hides id (record { unread = unread; reached = inl selected.reached }))))
        (is.decided id)

    given_is_acyclic : IsAcyclic G → IsAcyclic (given_graph walk)
    given_is_acyclic acyclic id path = acyclic id
        (path.0, includes_path (given_graph walk) G is.included (suc path.0) id id path.1)

    pub walk_of_acyclic : IsAcyclic G → IsWalk G order tips hidden ids
    walk_of_acyclic acyclic = with_starts G order ids
        (walk_of_settled (given_graph walk) G walk.tips walk.hidden is.included functional
        acyclic is.decided
        (bottoms_of_walk (given_graph walk) walk.tips walk.hidden (given_is_acyclic acyclic) selected_is_read order ids lists)
        settled order ids lists)

    -- without hidden commits everything is read
    module _ (none_hidden : hidden ≡ []) where
      none_is_hidden : (id : ObjectId) → ¬ IsReachedFrom (given_graph walk) walk.hidden id
      none_is_hidden id reached =
          let empty : length walk.hidden ≡ 0 = ap length (is.hidden_are ∙ none_hidden) in
          let inside : reached.1.0 < length walk.hidden = reached.1.1 in
          omega (arith, empty, inside)

      all_read : (id : ObjectId) → IsReachedFromEither (given_graph walk) walk.tips walk.hidden id → IsRead (given_graph walk) id
      all_read id reached = ⊎_elim (λ read. read)
          (λ unread. absurd (none_is_hidden id (settled.hides id (record { unread = unread; reached = reached }))))
          (is.decided id)

      pub walk_of_unhidden : IsWalk G order tips hidden ids
      walk_of_unhidden = with_starts G order ids
          (walk_of_complete (given_graph walk) G walk.tips walk.hidden is.included functional
          (λ id it. all_read id (inl it)) (λ id it. all_read id (inr it)) order ids lists)

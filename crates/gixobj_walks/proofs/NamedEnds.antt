-- Where reading ends by numbers, it ends by names: complete, settled for a walk, settled for merge bases.
use Rattle.std.proofs.Common.{◌≡◌, ℕ, List, ⊎_elim, inl, inr, subst, length}
use Rattle.std.specs.List.{AllZip}
use Rattle.gixobj_walks_graph.specs.Graph.{IsReachedFrom, LeadsTo}
use Rattle.gixobj_walks_graph.specs.Numbered.{AreParentsKnown, Nodes, graph_at}
use Rattle.gixobj_walks_graph.specs.Walks.{IsSelected}
use Rattle.gixobj_walks_marks.specs.Settled.{IsBottom, IsComplete, IsSettledWalk, IsWanted}
use Rattle.gixobj_walks.proofs.NamedPaths.{name_unique, named_parent, named_steps, reached_named, reached_numbered, read_named, read_numbered}
use Rattle.gixobj_walks.specs.Named.{AreDistinct, Names, named_graph}

module _ {V : Type 0} (ids : List V) (nodes : Nodes) (known : AreParentsKnown nodes) (lengths : length nodes ≡ length ids)
    (distinct : AreDistinct ids) where
  complete_named : (starts : List ℕ) (names : List V) → AllZip (Names ids) starts names → IsComplete (graph_at nodes) starts
      → IsComplete (named_graph ids nodes) names
  complete_named starts names zip complete id reached =
      let it = reached_numbered ids nodes distinct starts names zip id reached in
      read_named ids nodes known lengths it.0 id (complete it.0 it.2) it.1

  module _ (tips hidden : List ℕ) (tip_ids hidden_ids : List V) (tip_names : AllZip (Names ids) tips tip_ids)
      (hidden_names : AllZip (Names ids) hidden hidden_ids) where
    pub selected_named : (number : ℕ) (id : V) → Names ids number id → IsSelected (graph_at nodes) tips hidden number
        → IsSelected (named_graph ids nodes) tip_ids hidden_ids id
    selected_named number id name selected = record {
      reached = reached_named ids nodes known lengths tips tip_ids tip_names number id selected.reached name;
      shown = λ hides.
          let it = reached_numbered ids nodes distinct hidden hidden_ids hidden_names id hides in
          selected.shown (subst (λ n. IsReachedFrom (graph_at nodes) hidden n) (distinct it.0 number id it.1 name) it.2);
    }

    pub selected_numbered : (number : ℕ) (id : V) → Names ids number id → IsSelected (named_graph ids nodes) tip_ids hidden_ids id
        → IsSelected (graph_at nodes) tips hidden number
    selected_numbered number id name selected =
        let it = reached_numbered ids nodes distinct tips tip_ids tip_names id selected.reached in
        record {
          reached = subst (λ n. IsReachedFrom (graph_at nodes) tips n) (distinct it.0 number id it.1 name) it.2;
          shown = λ hides. selected.shown (reached_named ids nodes known lengths hidden hidden_ids hidden_names number id hides name);
        }

    -- a wanted commit has a number
    wanted_numbered : (id : V) → IsWanted (named_graph ids nodes) tip_ids hidden_ids id
        → (number : ℕ) × Names ids number id × IsWanted (graph_at nodes) tips hidden number
    wanted_numbered id wanted = ⊎_elim
        (λ reached.
        let it = reached_numbered ids nodes distinct tips tip_ids tip_names id reached in (
          it.0,
          it.1,
          record {
            unread = λ read. wanted.unread (read_named ids nodes known lengths it.0 id read it.1);
            reached = inl it.2;
          },
        ))
        (λ reached.
        let it = reached_numbered ids nodes distinct hidden hidden_ids hidden_names id reached in (
          it.0,
          it.1,
          record {
            unread = λ read. wanted.unread (read_named ids nodes known lengths it.0 id read it.1);
            reached = inr it.2;
          },
        ))
        wanted.reached

    bottom_numbered : (number : ℕ) (id : V) → Names ids number id → IsBottom (named_graph ids nodes) tip_ids hidden_ids id
        → IsBottom (graph_at nodes) tips hidden number
    bottom_numbered number id name bottom = record {
      read = read_numbered ids nodes distinct number id bottom.read name;
      selected = selected_numbered number id name bottom.selected;
      last = λ parent edge selected.
          let it = named_parent ids nodes known lengths number parent id edge name in
          bottom.last it.0 it.2 (selected_named parent it.0 it.1 selected);
    }

    pub settled_walk_named : IsSettledWalk (graph_at nodes) tips hidden → IsSettledWalk (named_graph ids nodes) tip_ids hidden_ids
    settled_walk_named settled = record {
      hides = λ id wanted.
          let it = wanted_numbered id wanted in
          reached_named ids nodes known lengths hidden hidden_ids hidden_names it.0 id (settled.hides it.0 it.2) it.1;
      below = λ id bottom wanted is.
          let it = wanted_numbered id wanted in
          let at = reached_numbered ids nodes distinct tips tip_ids tip_names bottom is.selected.reached in
          let path = settled.below it.0 at.0 it.2 (bottom_numbered at.0 bottom at.1 is) in
          let end = named_steps ids nodes known lengths path.0 at.0 it.0 bottom path.1 at.1 in
          (path.0, subst (λ v. LeadsTo (named_graph ids nodes) path.0 bottom v) (name_unique ids it.0 end.0 id end.1 it.1) end.2);
    }

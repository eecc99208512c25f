-- Merge bases by numbers are merge bases by names.
use Rattle.std.proofs.Common.{◌≡◌, ◌<◌, ℕ, List, Some, ⊎_elim, inl, inr, subst, length}
use Rattle.gixobj_walks_graph.specs.Bases.{IsCommon}
use Rattle.gixobj_walks_graph.specs.Graph.{HasParent, LeadsTo, Reaches}
use Rattle.gixobj_walks_graph.specs.Numbered.{AreParentsKnown, Nodes, graph_at}
use Rattle.gixobj_walks_marks.specs.Settled.{IsCandidate, IsSettledBases, IsWantedBase}
use Rattle.gixobj_walks.proofs.NamedPaths.{below_of_name, name_below, name_unique, named_parent, named_steps, numbered_parent, numbered_steps, read_named}
use Rattle.gixobj_walks.specs.Named.{AreDistinct, Names, named_graph}

module _ {V : Type 0} (ids : List V) (nodes : Nodes) (known : AreParentsKnown nodes) (lengths : length nodes ≡ length ids)
    (distinct : AreDistinct ids) where
  pub reaches_named : (number end : ℕ) (id last : V) → Names ids number id → Names ids end last → Reaches (graph_at nodes) number end
      → Reaches (named_graph ids nodes) id last
  reaches_named number end id last name last_name path =
      let it = named_steps ids nodes known lengths path.0 number end id path.1 name in
      (path.0, subst (λ v. LeadsTo (named_graph ids nodes) path.0 id v) (name_unique ids end it.0 last it.1 last_name) it.2)

  -- what a commit with a number reaches has a number
  pub reaches_numbered : (number : ℕ) (id last : V) → Names ids number id → Reaches (named_graph ids nodes) id last
      → (end : ℕ) × Names ids end last × Reaches (graph_at nodes) number end
  reaches_numbered number id last name path =
      let it = numbered_steps ids nodes distinct path.0 number id last path.1 name in
      (it.0, it.1, (path.0, it.2))

  module _ (one other : ℕ) (one_id other_id : V) (one_name : Names ids one one_id) (other_name : Names ids other other_id) where
    common_named : (number : ℕ) (id : V) → Names ids number id → IsCommon (graph_at nodes) one other number
        → IsCommon (named_graph ids nodes) one_id other_id id
    common_named number id name common = record {
      from_one = reaches_named one number one_id id one_name name common.from_one;
      from_other = reaches_named other number other_id id other_name name common.from_other;
    }

    common_numbered : (id : V) → IsCommon (named_graph ids nodes) one_id other_id id
        → (number : ℕ) × Names ids number id × IsCommon (graph_at nodes) one other number
    common_numbered id common =
        let first = reaches_numbered one one_id id one_name common.from_one in
        let second = reaches_numbered other other_id id other_name common.from_other in (
          first.0,
          first.1,
          record {
            from_one = first.2;
            from_other = subst (λ n. Reaches (graph_at nodes) other n) (distinct second.0 first.0 id second.1 first.1) second.2;
          },
        )

    pub candidate_named : (number : ℕ) (id : V) → Names ids number id → IsCandidate (graph_at nodes) one other number
        → IsCandidate (named_graph ids nodes) one_id other_id id
    candidate_named number id name is = record {
      common = common_named number id name is.common;
      best = λ child common edge.
          let it = common_numbered child common in
          let step = numbered_parent ids nodes child id edge in
          let from : HasParent (graph_at nodes) it.0 number = subst (λ n. HasParent (graph_at nodes) n number)
          (distinct step.0 it.0 child step.2 it.1)
          (subst (λ n. HasParent (graph_at nodes) step.0 n) (distinct step.1 number id step.3 name) step.4) in
          is.best it.0 it.2 from;
    }

    pub candidate_numbered : (id : V) → IsCandidate (named_graph ids nodes) one_id other_id id
        → (number : ℕ) × Names ids number id × IsCandidate (graph_at nodes) one other number
    candidate_numbered id is =
        let it = common_numbered id is.common in (
          it.0,
          it.1,
          record {
            common = it.2;
            best = λ child common edge.
                let name = child_name child it.0 edge in
                let step = named_parent ids nodes known lengths child it.0 name.0 edge name.1 in
                is.best name.0 (common_named child name.0 name.1 common)
                (subst (λ v. HasParent (named_graph ids nodes) name.0 v) (name_unique ids it.0 step.0 id step.1 it.1) step.2);
          },
        )
      where
        child_name : (child parent : ℕ) → HasParent (graph_at nodes) child parent → (name : V) × Names ids child name
        child_name child parent edge = name_below ids child
            (subst (λ n. child < n) lengths (below_of_name nodes child (Some edge.node) edge.named))

    pub wanted_base_numbered : (id : V) → IsWantedBase (named_graph ids nodes) one_id other_id id
        → (number : ℕ) × Names ids number id × IsWantedBase (graph_at nodes) one other number
    wanted_base_numbered id wanted = ⊎_elim
        (λ reached.
        let it = reaches_numbered one one_id id one_name reached in (
          it.0,
          it.1,
          record {
            unread = λ read. wanted.unread (read_named ids nodes known lengths it.0 id read it.1);
            reached = inl it.2;
          },
        ))
        (λ reached.
        let it = reaches_numbered other other_id id other_name reached in (
          it.0,
          it.1,
          record {
            unread = λ read. wanted.unread (read_named ids nodes known lengths it.0 id read it.1);
            reached = inr it.2;
          },
        ))
        wanted.reached

    pub settled_bases_named : IsSettledBases (graph_at nodes) one other
        → IsSettledBases (named_graph ids nodes) one_id other_id
    settled_bases_named settled = record {
      common = λ id wanted.
          let it = wanted_base_numbered id wanted in
          common_named it.0 id it.1 (settled.common it.0 it.2);
      below = λ id candidate wanted is.
          let it = wanted_base_numbered id wanted in
          let best = candidate_numbered candidate is in
          reaches_named best.0 it.0 candidate id best.1 it.1 (settled.below it.0 best.0 it.2 best.2);
      read = λ candidate is.
          let best = candidate_numbered candidate is in
          read_named ids nodes known lengths best.0 candidate (settled.read best.0 best.2) best.1;
    }

-- Paths of a graph: they append, and a larger graph keeps them.
use Rattle.std.proofs.Common.{◌≡◌, ◌⊎◌, ℕ, zero, suc, List, Contains, refl, subst, sym, inl, inr}
use Rattle.gixobj_walks_graph.specs.Graph.{Graph, HasAncestor, HasParent, IsFunctional, IsIncluded, IsRead, IsReachedFrom, LeadsTo, NodeView, Reaches}

-- each commit reaches itself
pub reaches_itself : {V : Type 0} (G : Graph V) (id : V) → Reaches G id id
reaches_itself G id = (zero, refl)

-- each commit reaches its parents
pub reaches_parent : {V : Type 0} (G : Graph V) (child parent : V) → HasParent G child parent → Reaches G child parent
reaches_parent G child parent has = (suc zero, (parent, has, refl))

-- a step and a path are a path
pub step_reaches : {V : Type 0} (G : Graph V) (from next to : V) → HasParent G from next → Reaches G next to
    → HasAncestor G from to
step_reaches G from next to has path = (path.0, (next, has, path.1))

-- an ancestor is reached
pub ancestor_is_reached : {V : Type 0} (G : Graph V) (from to : V) → HasAncestor G from to → Reaches G from to
ancestor_is_reached G from to path = (suc path.0, path.1)

-- paths append
pub path_appends : {V : Type 0} (G : Graph V) (n : ℕ) (from middle to : V) → LeadsTo G n from middle
    → Reaches G middle to → Reaches G from to
path_appends {V} G zero from middle to here rest = subst (λ (v : V). Reaches G v to) (sym here) rest
path_appends G (suc n) from middle to path rest = ancestor_is_reached G from to
    (step_reaches G from path.0 to path.1 (path_appends G n path.0 middle to path.2 rest))

-- what a reached commit reaches is reached
pub reaches_transitively : {V : Type 0} (G : Graph V) (from middle to : V) → Reaches G from middle
    → Reaches G middle to → Reaches G from to
reaches_transitively G from middle to path rest = path_appends G path.0 from middle to path.1 rest

-- what an ancestor reaches is an ancestor
pub ancestor_reaches : {V : Type 0} (G : Graph V) (from middle to : V) → HasAncestor G from middle
    → Reaches G middle to → HasAncestor G from to
ancestor_reaches G from middle to path rest = step_reaches G from path.1.0 to path.1.1
    (path_appends G path.0 path.1.0 middle to path.1.2 rest)

-- an ancestor of a reached commit is an ancestor
pub path_to_ancestor : {V : Type 0} (G : Graph V) (n : ℕ) (from middle to : V) → LeadsTo G n from middle
    → HasAncestor G middle to → HasAncestor G from to
path_to_ancestor {V} G zero from middle to here rest = subst (λ (v : V). HasAncestor G v to) (sym here) rest
path_to_ancestor G (suc n) from middle to path rest =
    ancestor_reaches G from middle to (n, path) (ancestor_is_reached G middle to rest)

-- an ancestor of a reached commit is an ancestor
pub reaches_ancestor : {V : Type 0} (G : Graph V) (from middle to : V) → Reaches G from middle
    → HasAncestor G middle to → HasAncestor G from to
reaches_ancestor G from middle to path rest = path_to_ancestor G path.0 from middle to path.1 rest

-- a commit that is reached is the same, or an ancestor
pub reaches_cases : {V : Type 0} (G : Graph V) (n : ℕ) (from to : V) → LeadsTo G n from to
    → (from ≡ to) ⊎ HasAncestor G from to
reaches_cases G zero from to here = inl here
reaches_cases G (suc n) from to path = inr (n, path)

-- an ancestor is reached by a path and its last step
pub ancestor_has_child : {V : Type 0} (G : Graph V) (n : ℕ) (from to : V) → LeadsTo G (suc n) from to
    → (child : V) × Reaches G from child × HasParent G child to
ancestor_has_child {V} G zero from to path = (
  from,
  reaches_itself G from,
  subst (λ (v : V). HasParent G from v) path.2 path.1,
)
ancestor_has_child G (suc n) from to path =
    let rest = ancestor_has_child G n path.0 to path.2 in
    (rest.0, ancestor_is_reached G from rest.0 (step_reaches G from path.0 rest.0 path.1 rest.1), rest.2)

-- ---- larger graphs

-- a larger graph keeps parents
pub includes_parent : {V : Type 0} (R G : Graph V) → IsIncluded R G → (child parent : V) → HasParent R child parent
    → HasParent G child parent
includes_parent R G included child parent has =
    record { node = has.node; named = included child has.node has.named; listed = has.listed }

-- a larger graph keeps paths
pub includes_path : {V : Type 0} (R G : Graph V) → IsIncluded R G → (n : ℕ) (from to : V) → LeadsTo R n from to
    → LeadsTo G n from to
includes_path R G included zero from to here = here
includes_path R G included (suc n) from to path = (
  path.0,
  includes_parent R G included from path.0 path.1,
  includes_path R G included n path.0 to path.2,
)

-- a larger graph keeps what is reached
pub includes_reached : {V : Type 0} (R G : Graph V) → IsIncluded R G → (from to : V) → Reaches R from to
    → Reaches G from to
includes_reached R G included from to path = (path.0, includes_path R G included path.0 from to path.1)

-- a larger graph keeps what starts reach
pub includes_reached_from : {V : Type 0} (R G : Graph V) → IsIncluded R G → (starts : List V) (id : V)
    → IsReachedFrom R starts id → IsReachedFrom G starts id
includes_reached_from R G included starts id reached = (
  reached.0,
  reached.1,
  includes_reached R G included reached.0 id reached.2,
)

-- a path from a commit that starts reach
pub reached_from_reaches : {V : Type 0} (G : Graph V) (starts : List V) (middle to : V) → IsReachedFrom G starts middle
    → Reaches G middle to → IsReachedFrom G starts to
reached_from_reaches G starts middle to reached path = (
  reached.0,
  reached.1,
  reaches_transitively G reached.0 middle to reached.2 path,
)

-- ---- first unread commits

-- a commit that is read has the same parents in both graphs
pub read_has_parent : {V : Type 0} (R G : Graph V) → IsIncluded R G → IsFunctional G → (child parent : V)
    → IsRead R child → HasParent G child parent → HasParent R child parent
read_has_parent {V} R G included functional child parent read has = record {
  node = read.0;
  named = read.1;
  listed = subst (λ (node : NodeView V). Contains node.parents parent)
      (functional child has.node read.0 has.named (included child read.0 read.1)) has.listed;
}

-- a path to a commit that is read, by commits that are read
pub record IsReadPath {V : Type 0} (R : Graph V) (from to : V) : Type 0 where
  pub path : Reaches R from to
  pub read : IsRead R to

-- a path to the first commit of a path that is not read
pub record HasUnread {V : Type 0} (R G : Graph V) (from to : V) : Type 0 where
  pub id : V
  pub path : Reaches R from id
  pub unread : ¬ IsRead R id
  pub rest : Reaches G id to

-- a step to a path that is read
pub step_is_read : {V : Type 0} (R : Graph V) (from next to : V) → HasParent R from next → IsReadPath R next to
    → IsReadPath R from to
step_is_read R from next to has rest = record {
  path = ancestor_is_reached R from to (step_reaches R from next to has rest.path);
  read = rest.read;
}

-- a step to a path with a commit that is not read
pub step_has_unread : {V : Type 0} (R G : Graph V) (from next to : V) → HasParent R from next → HasUnread R G next to
    → HasUnread R G from to
step_has_unread R G from next to has rest = record {
  id = rest.id;
  path = ancestor_is_reached R from rest.id (step_reaches R from next rest.id has rest.path);
  unread = rest.unread;
  rest = rest.rest;
}

-- a path is wholly read, or passes a first commit that is not read
pub first_unread : {V : Type 0} (R G : Graph V) → IsIncluded R G → IsFunctional G
    → ((id : V) → IsRead R id ⊎ (¬ IsRead R id)) → (n : ℕ) (from to : V) → LeadsTo G n from to
    → IsReadPath R from to ⊎ HasUnread R G from to
first_unread {V} R G included functional decide zero from to here =
    elim (decide from) [
      | inl read ↦ inl (record {
        path = (zero, here);
        read = subst (λ (v : V). IsRead R v) here read;
      })
      | inr unread ↦ inr (record {
        id = from;
        path = reaches_itself R from;
        unread = unread;
        rest = (zero, here);
      })
    ]
first_unread {V} R G included functional decide (suc n) from to path =
    elim (decide from) [
      | inl read ↦
          let has = read_has_parent R G included functional from path.0 read path.1 in
          elim (first_unread R G included functional decide n path.0 to path.2) [
            | inl rest ↦ inl (step_is_read R from path.0 to has rest)
            | inr rest ↦ inr (step_has_unread R G from path.0 to has rest)
          ]
      | inr unread ↦ inr (record {
        id = from;
        path = reaches_itself R from;
        unread = unread;
        rest = (suc n, path);
      })
    ]

-- Merge bases (git-merge-base).
use Rattle.std.specs.Prelude.{◌↔◌, List, Contains}
use Rattle.gixobj_walks_graph.specs.Graph.{AreOnce, Graph, HasAncestor, Reaches}

-- both commits reach it
pub record IsCommon {V : Type 0} (G : Graph V) (one other id : V) : Type 0 where
  pub from_one : Reaches G one id
  pub from_other : Reaches G other id

-- a best common ancestor: no other common one has it as an ancestor
pub record IsMergeBase {V : Type 0} (G : Graph V) (one other id : V) : Type 0 where
  pub common : IsCommon G one other id
  pub best : (better : V) → IsCommon G one other better → ¬ HasAncestor G better id

-- exactly the merge bases, each once (`--all`)
pub record AreMergeBases {V : Type 0} (G : Graph V) (one other : V) (ids : List V) : Type 0 where
  pub exact : (id : V) → Contains ids id ↔ IsMergeBase G one other id
  pub once : AreOnce ids

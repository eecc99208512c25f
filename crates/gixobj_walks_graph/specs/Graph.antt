-- Commits and their parents as a graph: which commits one reaches (gitglossary, "DAG", "parent", "reachable").
use Rattle.std.specs.Prelude.{◌≡◌, ◌≢◌, ◌↔◌, ℕ, zero, suc, List, [], ◌∷◌, Contains, length}
use Rattle.std.specs.List.{AllByRecursion}

-- a commit as walks see it: its parents in the order of its lines, and the seconds of its committer
pub record NodeView (V : Type 0) : Type 0 where
  pub parents : List V
  pub seconds : ℕ

-- the commits: which commit each id, or each number, names
abbrev pub Graph : Type 0 → Type 1
Graph V = V → NodeView V → Type 0

-- the second commit is a parent of the first
pub record HasParent {V : Type 0} (G : Graph V) (child parent : V) : Type 0 where
  pub node : NodeView V
  pub named : G child node
  pub listed : Contains node.parents parent

-- n steps, each to a parent, lead from the first commit to the second
abbrev pub LeadsTo : {V : Type 0} → Graph V → ℕ → V → V → Type 0
LeadsTo G zero from to = from ≡ to
LeadsTo {V} G (suc n) from to = (next : V) × HasParent G from next × LeadsTo G n next to

-- the second commit is the first, or an ancestor of it
abbrev pub Reaches : {V : Type 0} → Graph V → V → V → Type 0
Reaches G from to = (n : ℕ) × LeadsTo G n from to

-- the second commit is an ancestor of the first: at least one step leads to it
abbrev pub HasAncestor : {V : Type 0} → Graph V → V → V → Type 0
HasAncestor G from to = (n : ℕ) × LeadsTo G (suc n) from to

-- one of the commits reaches this one
abbrev pub IsReachedFrom : {V : Type 0} → Graph V → List V → V → Type 0
IsReachedFrom {V} G starts id = (start : V) × Contains starts start × Reaches G start id

-- the id names a commit
abbrev pub IsRead : {V : Type 0} → Graph V → V → Type 0
IsRead {V} G id = (node : NodeView V) × G id node

-- each id names one commit at most
abbrev pub IsFunctional : {V : Type 0} → Graph V → Type 0
IsFunctional {V} G = (id : V) (node other : NodeView V) → G id node → G id other → node ≡ other

-- no commit is an ancestor of itself, since the id of each has those of its parents
abbrev pub IsAcyclic : {V : Type 0} → Graph V → Type 0
IsAcyclic {V} G = (id : V) → ¬ HasAncestor G id id

-- the second graph has each commit of the first
abbrev pub IsIncluded : {V : Type 0} → Graph V → Graph V → Type 0
IsIncluded {V} R G = (id : V) (node : NodeView V) → R id node → G id node

-- `R` holds of each element and each later one
abbrev pub EachLater : {X : Type 0} → (X → X → Type 0) → List X → Type 0
EachLater R [] = Unit {0}
EachLater R (x ∷ xs) = AllByRecursion (R x) xs × EachLater R xs

-- each commit once
abbrev pub AreOnce : {V : Type 0} → List V → Type 0
AreOnce ids = EachLater (λ x y. x ≢ y) ids

-- as many commits as `P` holds of
pub record HasCount {V : Type 0} (P : V → Type 0) (count : ℕ) : Type 0 where
  pub ids : List V
  pub exact : (id : V) → Contains ids id ↔ P id
  pub once : AreOnce ids
  pub count_is : count ≡ length ids

-- The order of a walk (git-rev-list, "Commit Ordering"): a commit is listed as soon as each selected child is listed.
-- Of several such commits it is the newest, or the one that was found last. `IsNewestFirst` and `FollowsLines` of Walks
-- say what follows for the list.
use Rattle.std.specs.Prelude.{◌≡◌, ◌⊎◌, ◌≤◌, ◌<◌, List, [], ◌∷◌, ◌++◌, Contains}
use Rattle.std.specs.List.{AllByRecursion}
use Rattle.gixobj_walks_graph.specs.Graph.{Graph, HasParent, NodeView}
use Rattle.gixobj_walks_graph.specs.declared.order.Order.{Order}
use Rattle.gixobj_walks_graph.specs.declared.order.Order.TheVariants.{Date, Topological}

-- the commit is selected, and each selected child of it is listed
pub record IsReady {V : Type 0} (G : Graph V) (Selected : V → Type 0) (listed : List V) (id : V) : Type 0 where
  pub selected : Selected id
  pub children : (child : V) → Selected child → HasParent G child id → Contains listed child

-- ---- waiting commits

-- the ready commits that are not listed yet: those by date, the newest first; and those that the topological order
-- found, the latest at the end
pub record Waiting (V : Type 0) : Type 0 where
  pub dated : List V
  pub found : List V

-- the first commit is as new as the second, or newer
pub record IsNotOlder {V : Type 0} (G : Graph V) (id other : V) : Type 0 where
  pub node : NodeView V
  pub other_node : NodeView V
  pub named : G id node
  pub other_named : G other other_node
  pub seconds : other_node.seconds ≤ node.seconds

-- the first commit is older than the second
pub record IsOlder {V : Type 0} (G : Graph V) (id other : V) : Type 0 where
  pub node : NodeView V
  pub other_node : NodeView V
  pub named : G id node
  pub other_named : G other other_node
  pub seconds : node.seconds < other_node.seconds

-- the commit is inserted by its date: after those that are not older, before those that are older
pub record IsInsertedByDate {V : Type 0} (G : Graph V) (id : V) (old new : List V) : Type 0 where
  pub before : List V
  pub after : List V
  pub was : old ≡ before ++ after
  pub joined : new ≡ before ++ id ∷ after
  pub not_older : AllByRecursion (λ other. IsNotOlder G other id) before
  pub older : AllByRecursion (λ other. IsOlder G other id) after

-- the commits are inserted by their dates, one after the other
abbrev pub AreInsertedByDate : {V : Type 0} → Graph V → List V → List V → List V → Type 0
AreInsertedByDate G [] old new = new ≡ old
AreInsertedByDate {V} G (id ∷ ids) old new = (next : List V) × IsInsertedByDate G id old next
    × AreInsertedByDate G ids next new

-- the commits join those that wait
abbrev pub Join : {V : Type 0} → Graph V → Order → List V → Waiting V → Waiting V → Type 0
Join G Date ids old new = AreInsertedByDate G ids old.dated new.dated × (new.found ≡ old.found)
Join G Topological ids old new = (new.dated ≡ old.dated) × (new.found ≡ old.found ++ ids)

-- the next of the waiting commits, and those that wait after it: the one that was found last, else the newest
abbrev pub IsNext : {V : Type 0} → Waiting V → V → Waiting V → Type 0
IsNext old id new = ((old.found ≡ new.found ++ id ∷ []) × (new.dated ≡ old.dated))
    ⊎ ((old.found ≡ []) × (new.found ≡ []) × (old.dated ≡ id ∷ new.dated))

-- ---- lists

-- of the parents of a commit that was listed last, those that are ready now, each at its last mention
abbrev pub BecomeReady : {V : Type 0} → Graph V → (V → Type 0) → List V → List V → List V → Type 0
BecomeReady G Selected listed [] ready = ready ≡ []
BecomeReady {V} G Selected listed (parent ∷ parents) ready =
    (IsReady G Selected listed parent × (¬ Contains parents parent)
    × ((rest : List V) × (ready ≡ parent ∷ rest) × BecomeReady G Selected listed parents rest))
    ⊎ ((¬ (IsReady G Selected listed parent × (¬ Contains parents parent)))
    × BecomeReady G Selected listed parents ready)

-- the tips that are ready before any commit is listed, each at its first mention
abbrev pub AreFirstReady : {V : Type 0} → Graph V → (V → Type 0) → List V → List V → List V → Type 0
AreFirstReady G Selected seen [] ready = ready ≡ []
AreFirstReady {V} G Selected seen (tip ∷ tips) ready =
    (IsReady G Selected [] tip × (¬ Contains seen tip)
    × ((rest : List V) × (ready ≡ tip ∷ rest) × AreFirstReady G Selected (tip ∷ seen) tips rest))
    ⊎ ((¬ (IsReady G Selected [] tip × (¬ Contains seen tip)))
    × AreFirstReady G Selected (tip ∷ seen) tips ready)

-- a commit is listed: it is the next of those that wait, and those of its parents that become ready join them
pub record Lists {V : Type 0} (G : Graph V) (order : Order) (Selected : V → Type 0) (listed : List V) (old : Waiting V)
    (id : V) (new : Waiting V) : Type 0 where
  pub others : Waiting V
  pub node : NodeView V
  pub ready : List V
  pub next : IsNext old id others
  pub named : G id node
  pub become_ready : BecomeReady G Selected (id ∷ listed) node.parents ready
  pub join : Join G order ready others new

-- the commits are listed one after the other, until none waits; these are listed already
abbrev pub ListsAll : {V : Type 0} → Graph V → Order → (V → Type 0) → List V → Waiting V → List V → Type 0
ListsAll G order Selected listed waiting [] = (waiting.dated ≡ []) × (waiting.found ≡ [])
ListsAll {V} G order Selected listed waiting (id ∷ ids) = (next : Waiting V)
    × Lists G order Selected listed waiting id next × ListsAll G order Selected (id ∷ listed) next ids

-- the list of the selected commits in this order, from the tips on
pub record IsListing {V : Type 0} (G : Graph V) (order : Order) (Selected : V → Type 0) (tips ids : List V)
    : Type 0 where
  pub ready : List V
  pub dated : List V
  pub first_ready : AreFirstReady G Selected [] tips ready
  pub by_date : AreInsertedByDate G ready [] dated
  pub lists : ListsAll G order Selected [] (record { dated = dated; found = [] }) ids

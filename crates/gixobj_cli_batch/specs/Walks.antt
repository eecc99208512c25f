-- What the commands about ancestors print: the merge bases of two commits, and the commits of a walk.
use Rattle.std.specs.Prelude.{◌≡◌, ◌⊎◌, ⊤, ℕ, List, [], ◌∷◌, Option, None, Some}
use Rattle.std.specs.List.{flat_map}
use Rattle.gix_object.specs.Stores.{Objects}
use Rattle.gix_object.specs.hash.hash.object_id.ObjectId.{ObjectId}
use Rattle.gixobj_cli_batch.specs.Lines.{commit_line}
use Rattle.gixobj_cli_batch.specs.Objects.{never_fails}
use Rattle.gixobj_cli_batch.specs.declared.fault.Fault.{Fault}
use Rattle.gixobj_cli_batch.specs.declared.fault.Fault.TheVariants as program
use Rattle.gixobj_walks.specs.Newest.{AreNewestFirst}
use Rattle.gixobj_walks_commits.specs.Nodes.{CommitGraph}
use Rattle.gixobj_walks_graph.specs.Bases.{AreMergeBases}
use Rattle.gixobj_walks_graph.specs.Graph.{IsAcyclic}
use Rattle.gixobj_walks_graph.specs.Walks.{IsWalk}
use Rattle.gixobj_walks_graph.specs.declared.order.Order.{Order}
use Rattle.gixobj_walks_store.specs.Errors.{IsWalkError}
use Rattle.gixobj_walks_store.specs.Peeled.{ArePeeled, IsPeelToCommitsError}
use Rattle.gixobj_walks_store.specs.declared.error.WalkError.{WalkError}

-- the error after the lines of merge bases: that there is none; or no error
abbrev pub IsFaultOfBases : List ObjectId → Option Fault → Type 0
IsFaultOfBases [] fault = fault ≡ Some program.NoMergeBase
IsFaultOfBases (id ∷ ids) fault = fault ≡ None

-- the lines of the merge bases of two commits, the newest first, and the error after them; they are exact, since no
-- commit is an ancestor of itself
pub record PrintsMergeBases (objects : Objects) (one other : ObjectId) (lines : List ℕ) (fault : Option Fault)
    : Type 0 where
  pub bases : List ObjectId
  pub exact : IsAcyclic (CommitGraph objects) → AreMergeBases (CommitGraph objects) one other bases
  pub ordered : AreNewestFirst (CommitGraph objects) bases
  pub printed : lines ≡ flat_map commit_line bases
  pub ended : IsFaultOfBases bases fault

-- the merge bases aren't listed: a commit that one of the two reaches isn't read, or is an ancestor of itself; or out
-- of memory
abbrev pub IsMergeBaseError : Objects → ObjectId → ObjectId → Fault → Type 0
IsMergeBaseError objects one other (program.Walk cause) =
    IsWalkError objects never_fails (one ∷ []) (other ∷ []) cause
IsMergeBaseError objects one other program.OutOfMemory = ⊤
IsMergeBaseError objects one other unexpected = ⊥

-- ---- walks

-- the id in a list, or none
abbrev pub listed_id : Option ObjectId → List ObjectId
listed_id None = []
listed_id (Some id) = id ∷ []

-- the commit that an id names, itself or through at most 64 tags; none for a tree, a blob or no id
abbrev pub ArePeeledOption : Objects → Option ObjectId → List ObjectId → Type 0
ArePeeledOption objects id commits = ArePeeled objects 64 (listed_id id) commits

-- an id isn't peeled, or memory ran out
abbrev pub IsPeelOptionError : Objects → Option ObjectId → WalkError → Type 0
IsPeelOptionError objects id error = IsPeelToCommitsError objects never_fails 64 (listed_id id) error

-- the lines of the commits that the tip reaches and the hidden commit doesn't, in this order; without a hidden commit
-- whatever the ancestors are, else since no commit is an ancestor of itself
pub record PrintsRevList (objects : Objects) (order : Order) (tip : ObjectId) (hidden : Option ObjectId)
    (lines : List ℕ) (fault : Option Fault) : Type 0 where
  pub tips : List ObjectId
  pub hides : List ObjectId
  pub ids : List ObjectId
  pub tip_peeled : ArePeeled objects 64 (tip ∷ []) tips
  pub hidden_peeled : ArePeeledOption objects hidden hides
  pub walk : IsAcyclic (CommitGraph objects) → IsWalk (CommitGraph objects) order tips hides ids
  pub unhidden : hides ≡ [] → IsWalk (CommitGraph objects) order tips hides ids
  pub printed : lines ≡ flat_map commit_line ids
  pub no_fault : fault ≡ None

-- the walk fails: a commit that the peeled ids reach isn't read, or is an ancestor of itself
pub record IsFailedWalk (objects : Objects) (tip : ObjectId) (hidden : Option ObjectId) (cause : WalkError)
    : Type 0 where
  pub tips : List ObjectId
  pub hides : List ObjectId
  pub tip_peeled : ArePeeled objects 64 (tip ∷ []) tips
  pub hidden_peeled : ArePeeledOption objects hidden hides
  pub error : IsWalkError objects never_fails tips hides cause

-- the commits aren't listed: one of the ids isn't peeled, or the walk fails; or out of memory
abbrev pub IsRevListError : Objects → ObjectId → Option ObjectId → Fault → Type 0
IsRevListError objects tip hidden (program.Walk cause) = IsPeelToCommitsError objects never_fails 64 (tip ∷ []) cause
    ⊎ (IsPeelOptionError objects hidden cause ⊎ IsFailedWalk objects tip hidden cause)
IsRevListError objects tip hidden program.OutOfMemory = ⊤
IsRevListError objects tip hidden unexpected = ⊥

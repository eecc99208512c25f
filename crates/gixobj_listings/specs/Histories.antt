-- The commits of a log: a commit and its ancestors by first parents (git-log, `--first-parent`).
use Rattle.std.specs.Prelude.{◌≡◌, ◌<◌, ℕ, Bool, IsFalse, List, [], ◌∷◌, Option, Some, None, length, ⊤}
use Rattle.gix_object.specs.Actor.{IsActor}
use Rattle.gix_object.specs.ByteStrings.{trimmed}
use Rattle.gix_object.specs.Commit.{CommitLines, DecodesToCommit}
use Rattle.gix_object.specs.Existing.{IsFindObjectError, NamesSuch}
use Rattle.gix_object.specs.Hash.{DecodesToId}
use Rattle.gix_object.specs.Stores.{Objects}
use Rattle.gix_object.specs.Titles.{summary_of}
use Rattle.gix_object.specs.hash.decode.Error.TheVariants as decoding
use Rattle.gix_object.specs.hash.hash.object_id.ObjectId.{ObjectId}
use Rattle.gix_object.specs.hash.kind.Kind.TheVariants.{Commit}
use Rattle.gix_object.specs.keep.find.existing_object.Error.{Error}
use Rattle.gix_object.specs.keep.find.existing_object.Error.TheVariants as existing
use Rattle.gix_object.specs.store.find.Error.TheVariants as find
use Rattle.gixobj_listings.specs.declared.history.LogEnd.{LogEnd}
use Rattle.gixobj_listings.specs.declared.history.LogEnd.TheVariants as end

-- a commit of a log as contracts see it: its id, its title, and the name and the email of its author
pub record LoggedView : Type 0 where
  pub id : ObjectId
  pub title : List ℕ
  pub author : List ℕ
  pub email : List ℕ

-- the actor of the line has this name and this email, without white space at their ends
pub record NamesAuthor (line author email : List ℕ) : Type 0 where
  pub line_name : List ℕ
  pub line_email : List ℕ
  pub time : List ℕ
  pub actor : IsActor line line_name line_email time
  pub trimmed_name : author ≡ trimmed line_name
  pub trimmed_email : email ≡ trimmed line_email

-- the id of the first parent of a commit; none for a root commit
abbrev pub HasFirstParent : List (List ℕ) → Option ObjectId → Type 0
HasFirstParent parents None = parents ≡ []
HasFirstParent parents (Some id) = (hex : List ℕ) × (more : List (List ℕ)) × (parents ≡ hex ∷ more)
    × DecodesToId hex id

-- the id names this commit
abbrev pub NamesCommit : Objects → ObjectId → CommitLines → Type 0
NamesCommit objects id commit = NamesSuch objects id Commit (λ hash content. DecodesToCommit hash content commit)

-- the parts are those of the commit that their id names, and this is its first parent, or none
pub record IsLogged (objects : Objects) (logged : LoggedView) (parent : Option ObjectId) : Type 0 where
  pub commit : CommitLines
  pub named : NamesCommit objects logged.id commit
  pub title : logged.title ≡ summary_of commit.message
  pub author : NamesAuthor commit.author logged.author logged.email
  pub first_parent : HasFirstParent commit.parents parent

-- the commits are those from the first id on, each the first parent of the one before it; the second id is the first
-- parent of the last commit, or none if that is a root commit
abbrev pub FollowsFirstParents : Objects → Option ObjectId → List LoggedView → Option ObjectId → Type 0
FollowsFirstParents objects start [] next = start ≡ next
FollowsFirstParents objects start (logged ∷ commits) next = (start ≡ Some logged.id)
    × ((parent : Option ObjectId) × IsLogged objects logged parent × FollowsFirstParents objects parent commits next)

-- the lookup failed because an allocation did
abbrev pub IsAllocationFailure : Error → Type 0
IsAllocationFailure (existing.Find find.OutOfMemory) = ⊤
IsAllocationFailure (existing.Decode oid decoding.OutOfMemory) = ⊤
IsAllocationFailure other = ⊥

-- a log of these commits from the tip ends so: at a root commit; or with fewer commits than it may have, at a commit
-- that isn't read, for this cause; or with as many commits as it may have, before this commit
abbrev pub IsLog : Objects → (ObjectId → Bool) → ℕ → ObjectId → List LoggedView → LogEnd → Type 0
IsLog objects may_fail max tip commits end.Root = FollowsFirstParents objects (Some tip) commits None
IsLog objects may_fail max tip commits (end.Unread id cause) = FollowsFirstParents objects (Some tip) commits (Some id)
    × IsFindObjectError objects may_fail Commit id cause × (¬ IsAllocationFailure cause) × (length commits < max)
IsLog objects may_fail max tip commits (end.TooLong id) = FollowsFirstParents objects (Some tip) commits (Some id)
    × (length commits ≡ max)

-- ---- one log

-- no lookup fails
abbrev pub NeverFails : (ObjectId → Bool) → Type 0
NeverFails may_fail = (id : ObjectId) → IsFalse (may_fail id)

-- the logs end alike: both at a root commit; or before the same commit, both because it isn't read, or both because it
-- would be one too many
abbrev pub EndAlike : LogEnd → LogEnd → Type 0
EndAlike end.Root end.Root = ⊤
EndAlike (end.Unread id cause) (end.Unread id' cause') = id ≡ id'
EndAlike (end.TooLong id) (end.TooLong id') = id ≡ id'
EndAlike first second = ⊥

-- The commits that ids name, themselves or through tags (gitrevisions, `<rev>^{}`; git-rev-list).
use Rattle.std.specs.Prelude.{◌≡◌, ⊤, ℕ, Bool, List, Option, Contains, filter_map}
use Rattle.std.specs.List.{AllZip}
use Rattle.gixobj_hash.specs.declared.hash.object_id.ObjectId.{ObjectId}
use Rattle.gixobj_store.specs.Stores.{Objects}
use Rattle.gixobj_walks_commits.specs.Tags.{IsPeelError, IsPeeled}
use Rattle.gixobj_walks_store.specs.declared.error.WalkError.{WalkError}
use Rattle.gixobj_walks_store.specs.declared.error.WalkError.TheVariants as walk

-- those that are present, in order
abbrev pub present : {X : Type 0} → List (Option X) → List X
present found = filter_map (λ it. it) found

-- the commits that these ids name through at most `max` tags each, in their order; a tree or a blob adds none
abbrev pub ArePeeled : Objects → ℕ → List ObjectId → List ObjectId → Type 0
ArePeeled objects max ids commits = (found : List (Option ObjectId)) × AllZip (IsPeeled objects max) ids found
    × (commits ≡ present found)

-- one of the ids isn't peeled, or memory ran out
abbrev pub IsPeelToCommitsError : Objects → (ObjectId → Bool) → ℕ → List ObjectId → WalkError → Type 0
IsPeelToCommitsError objects may_fail max ids (walk.Node cause) = (id : ObjectId) × Contains ids id
    × IsPeelError objects may_fail max id cause
IsPeelToCommitsError objects may_fail max ids walk.Cycle = ⊥
IsPeelToCommitsError objects may_fail max ids walk.OutOfMemory = ⊤

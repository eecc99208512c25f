-- Logs that grow by a commit, and first parents.
use Rattle.std.proofs.Common.{◌≡◌, ◌∷◌, ◌++◌, ℕ, List, [], Option, None, Some, refl, subst, sym}
use Rattle.std.specs.List.{AllZip}
use Rattle.gix_object.specs.Commit.{CommitLines}
use Rattle.gix_object.specs.Hash.{DecodesToId}
use Rattle.gix_object.specs.Stores.{Objects}
use Rattle.gix_object.specs.Titles.{summary_of}
use Rattle.gix_object.specs.hash.hash.object_id.ObjectId.{ObjectId}
use Rattle.gixobj_listings.specs.Histories.{FollowsFirstParents, HasFirstParent, IsLogged, LoggedView, NamesAuthor, NamesCommit}

-- a log goes on with the commit at which it stopped
pub follows_first_parents_snoc : (objects : Objects) (start : Option ObjectId) (commits : List LoggedView) (logged : LoggedView) (parent : Option ObjectId)
    → FollowsFirstParents objects start commits (Some logged.id) → IsLogged objects logged parent
    → FollowsFirstParents objects start (commits ++ logged ∷ []) parent
follows_first_parents_snoc objects start [] logged parent before is = (before, (parent, is, refl))
follows_first_parents_snoc objects start (first ∷ commits) logged parent before is =
    let (same, (next, first_is, rest)) = before in
    (same, (next, first_is, follows_first_parents_snoc objects next commits logged parent rest is))

-- the first of the ids that the hexes decode to is the first parent
pub has_first_parent_of_ids : (hexes : List (List ℕ)) (ids : List ObjectId) (id : ObjectId) (more : List ObjectId) → AllZip DecodesToId hexes ids
    → ids ≡ id ∷ more → HasFirstParent hexes (Some id)
has_first_parent_of_ids [] [] id more spelled split = cc split
has_first_parent_of_ids [] (x ∷ ids) id more spelled split = absurd spelled
has_first_parent_of_ids (hex ∷ hexes) [] id more spelled split = absurd spelled
has_first_parent_of_ids (hex ∷ hexes) (x ∷ ids) id more spelled split = let same : x ≡ id = cc split in (hex, hexes, refl, rw (sym same) spelled.0)

pub has_no_first_parent_of_ids : (hexes : List (List ℕ)) (ids : List ObjectId) → AllZip DecodesToId hexes ids → ids ≡ [] → HasFirstParent hexes None
has_no_first_parent_of_ids [] [] spelled none = refl
has_no_first_parent_of_ids [] (x ∷ ids) spelled none = refl
has_no_first_parent_of_ids (hex ∷ hexes) [] spelled none = absurd spelled
has_no_first_parent_of_ids (hex ∷ hexes) (x ∷ ids) spelled none = cc none

-- the log with the parts of the commit that comes next
pub follows_first_parents_push : (objects : Objects) (start : Option ObjectId) (commits pushed : List LoggedView) (logged : LoggedView) (id : ObjectId)
    (commit : CommitLines) (parent : Option ObjectId) → pushed ≡ commits ++ logged ∷ [] → FollowsFirstParents objects start commits (Some id)
    → logged.id ≡ id → NamesCommit objects id commit → logged.title ≡ summary_of commit.message → NamesAuthor commit.author logged.author logged.email
    → HasFirstParent commit.parents parent → FollowsFirstParents objects start pushed parent
follows_first_parents_push objects start commits pushed logged id commit parent added before same names title author first =
    let named : NamesCommit objects logged.id commit = subst (λ (it : ObjectId). NamesCommit objects it commit) (sym same) names in
    let next : FollowsFirstParents objects start commits (Some logged.id) =
    subst (λ (it : ObjectId). FollowsFirstParents objects start commits (Some it)) (sym same) before in
    subst (λ (list : List LoggedView). FollowsFirstParents objects start list parent) (sym added)
    (follows_first_parents_snoc objects start commits logged parent next
    (record { commit = commit; named = named; title = title; author = author; first_parent = first }))

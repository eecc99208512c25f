-- Iterators over the parents of a commit alone, or over its actors alone (gitdatamodel, "commits").
use Rattle.std.specs.Prelude.{◌≡◌, Option, Some, None}
use Rattle.std.specs.Iterator.{Count}
use Rattle.gixobj_actor.specs.Actor.{actor_view}
use Rattle.gixobj_actor.specs.declared.actor.SignatureRef.{SignatureRef}
use Rattle.gixobj_hash.specs.declared.hash.object_id.ObjectId.{ObjectId}
use Rattle.gixobj_tokens.specs.CommitTokens.{CommitTokenView, BeginsWithCommitToken, parent_token}
use Rattle.gixobj_parse.specs.Iterators as readers
use Rattle.gixobj_grammar.specs.Lines.{NeedsAllocation}
use Rattle.gixobj_tokens.specs.CommitTokenSteps.{remaining_commit_token_count, commit_reader_state}
use Rattle.gixobj_tokens.specs.TokenSearch.{IsActorToken, IsActorTokenOf, IsParentToken}
use Rattle.gixobj_tokens.specs.declared.commit.CommitRefIter.{CommitRefIter}
use Rattle.gixobj_tokens.specs.declared.commit.filters.ParentIds.{ParentIds}
use Rattle.gixobj_tokens.specs.declared.commit.filters.Signatures.{Signatures}

-- the token iterator within an iterator over parents
abbrev pub parents_reader : ParentIds → CommitRefIter
parents_reader it = it.tokens

-- the token iterator within an iterator over actors
abbrev pub actors_reader : Signatures → CommitRefIter
actors_reader it = it.tokens

-- at most one parent for each token that remains
abbrev pub remaining_parent_id_count : ParentIds → Count
remaining_parent_id_count it = remaining_commit_token_count (parents_reader it)

-- at most one actor for each token that remains
abbrev pub remaining_actor_count : Signatures → Count
remaining_actor_count it = remaining_commit_token_count (actors_reader it)

-- after tokens without the first property, the iterator consumes one with the second
abbrev pub ReadsFirstToken : (CommitTokenView → Type 0) → (CommitTokenView → Type 0) → CommitRefIter → CommitRefIter
    → Type 0
ReadsFirstToken = readers.ReadsFirst commit_reader_state BeginsWithCommitToken

-- no token with the property comes before the end, a malformed token, or a header whose value allocates; the iterator
-- is at its end
abbrev pub ReadsNoToken : (CommitTokenView → Type 0) → CommitRefIter → CommitRefIter → Type 0
ReadsNoToken = readers.ReadsNone commit_reader_state BeginsWithCommitToken (λ kind. NeedsAllocation)

-- the next parent; or none, at the end of the tokens or at an error
abbrev pub NextParent : ParentIds → Option ObjectId → ParentIds → Type 0
NextParent before (Some id) after = ReadsFirstToken IsParentToken (λ token. token ≡ parent_token id)
    (parents_reader before) (parents_reader after)
NextParent before None after = ReadsNoToken IsParentToken (parents_reader before) (parents_reader after)

-- the next author or committer; or none, at the end of the tokens or at an error
abbrev pub NextActor : Signatures → Option SignatureRef → Signatures → Type 0
NextActor before (Some it) after = ReadsFirstToken IsActorToken (IsActorTokenOf (actor_view it)) (actors_reader before)
    (actors_reader after)
NextActor before None after = ReadsNoToken IsActorToken (actors_reader before) (actors_reader after)

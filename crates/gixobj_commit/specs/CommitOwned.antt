-- Owned copies of borrowed commits, and the times of actors (gitdatamodel, "commits").
use Rattle.std.specs.Prelude.{◌≡◌, ◌⊎◌, ℕ, List, map}
use Rattle.std.specs.List.{AllZip}
use Rattle.bstr.specs.Owned.{bstring_bytes}
use Rattle.gixobj_actor.specs.Actor.{IsActor, IsNoActor, IsOwnedActor, IsTimeOrDefault, NamesActor}
use Rattle.gixobj_hash.specs.Hash.{DecodesToId}
use Rattle.gixobj_parse.specs.HeaderReading.{owned_header_of}
use Rattle.gixobj_actor.specs.declared.date.Time.{Time}
use Rattle.gixobj_hash.specs.declared.decode.Error.{Error}
use Rattle.gixobj_hash.specs.declared.decode.Error.TheVariants.{Malformed, OutOfMemory}
use Rattle.gixobj_grammar.specs.Commit.{CommitLines}
use Rattle.gixobj_hash.specs.Optional.{owned_bytes_if_some}
use Rattle.gixobj_commit.specs.declared.commit.Commit.{Commit}

-- the line is an actor, and this is its time, or the start of 1970 in UTC if its time is malformed
pub record IsTimeOfLine (line : List ℕ) (it : Time) : Type 0 where
  pub name : List ℕ
  pub email : List ℕ
  pub time : List ℕ
  pub read : IsActor line name email time
  pub time_or_default : IsTimeOrDefault time it

-- the owned commit has these lines: ids, untrimmed actors and times are decoded, and all else is copied
pub record IsOwnedFormOfCommit (lines : CommitLines) (commit : Commit) : Type 0 where
  pub tree : DecodesToId lines.tree commit.tree
  pub parents : AllZip DecodesToId lines.parents commit.parents.items
  pub author : IsOwnedActor lines.author commit.author
  pub committer : IsOwnedActor lines.committer commit.committer
  pub encoding : owned_bytes_if_some commit.encoding ≡ lines.encoding
  pub message : bstring_bytes commit.message ≡ lines.message
  pub extra_headers : map owned_header_of commit.extra_headers.items ≡ lines.extra_headers

-- Malformed: an actor line is malformed, or bytes follow the time of its actor; OutOfMemory: both actor lines are
-- valid, and an allocation failed
abbrev pub IsIntoOwnedCommitError : CommitLines → Error → Type 0
IsIntoOwnedCommitError lines Malformed = IsNoActor lines.author ⊎ IsNoActor lines.committer
IsIntoOwnedCommitError lines OutOfMemory = NamesActor lines.author × NamesActor lines.committer

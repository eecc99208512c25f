-- The messages of git-fsck about a commit (git-fsck, "FSCK MESSAGES").
use Rattle.std.specs.Prelude.{◌≡◌, ◌⊎◌, ◌∷◌, ◌++◌, ℕ, Bool, Contains, IsTrue, List, Result, Ok, Err, codes}
use Rattle.gixobj_hash.specs.ByteStrings.{IsByteFree}
use Rattle.gixobj_hash.specs.Bytes.{space}
use Rattle.gixobj_hash.specs.HeaderFormat.{BeginsWithOtherName}
use Rattle.gixobj_hash.specs.declared.hash.kind.Kind.{Kind}
use Rattle.gixobj_parse.specs.HeaderReading.{BeginsWithIdField, BeginsWithNoIdField}
use Rattle.gixobj_fsck.specs.Actors.{ActorPart, IsAfterLine}
use Rattle.gixobj_fsck.specs.Headers.{HeaderPart}
use Rattle.gixobj_fsck.specs.Lines.{ActorLine, BeginsWithName, IdLine}
use Rattle.gixobj_fsck.specs.Steps.{Then}
use Rattle.gixobj_fsck_messages.specs.Severities.{counts_as_error, severity_of}
use Rattle.gixobj_fsck_messages.specs.declared.message.Message.{Message}
use Rattle.gixobj_fsck_messages.specs.declared.message.Message.TheVariants as message

-- all lines that begin with `parent ` come, each with an id in hex, or the first without one is the fault
pub data ParentLines (kind : Kind) : List ℕ → Result (List ℕ) Message → Type 0 where
  no_parent : (input : List ℕ) → BeginsWithOtherName (codes "parent") input → ParentLines kind input (Ok input)
  bad_parent : (input : List ℕ) → BeginsWithName (codes "parent") input
      → BeginsWithNoIdField (codes "parent") kind input → ParentLines kind input (Err message.BadParentSha1)
  next_parent : (input hex rest : List ℕ) (outcome : Result (List ℕ) Message)
      → BeginsWithIdField (codes "parent") kind input hex rest → ParentLines kind rest outcome
      → ParentLines kind input outcome

-- more lines that begin with `author ` come: the first fault of an actor, or else that there are several authors
pub data MoreAuthors : List ℕ → Message → Type 0 where
  last_author : (input : List ℕ) → BeginsWithOtherName (codes "author") input
      → MoreAuthors input message.MultipleAuthors
  bad_author : (input actor : List ℕ) (fault : Message) → input ≡ codes "author" ++ space ∷ actor
      → ActorPart actor (Err fault) → MoreAuthors input fault
  next_author : (input actor after rest : List ℕ) (fault : Message) → input ≡ codes "author" ++ space ∷ actor
      → ActorPart actor (Ok after) → IsAfterLine actor rest → MoreAuthors rest fault → MoreAuthors input fault

-- no further author comes, or there is a fault
abbrev pub NoMoreAuthors : List ℕ → Result (List ℕ) Message → Type 0
NoMoreAuthors input (Ok rest) = BeginsWithOtherName (codes "author") input × (rest ≡ input)
NoMoreAuthors input (Err fault) = BeginsWithName (codes "author") input × MoreAuthors input fault

-- the parents, one author and the committer come, or the first fault
abbrev pub PeoplePart : Kind → List ℕ → Result (List ℕ) Message → Type 0
PeoplePart kind = Then (ParentLines kind) (Then (ActorLine (codes "author") message.MissingAuthor)
    (Then NoMoreAuthors (ActorLine (codes "committer") message.MissingCommitter)))

-- the lines of a commit up to the committer's come, or the first fault
abbrev pub CommitPart : Kind → List ℕ → Result (List ℕ) Message → Type 0
CommitPart kind = Then HeaderPart (Then (IdLine (codes "tree") kind message.MissingTree message.BadTreeSha1)
    (PeoplePart kind))

-- git reports this message about the commit: the first fault of its lines, or else a zero byte anywhere
abbrev pub IsCommitMessage : Kind → List ℕ → Message → Type 0
IsCommitMessage kind input it = CommitPart kind input (Err it)
    ⊎ ((rest : List ℕ) × CommitPart kind input (Ok rest) × Contains input 0 × (it ≡ message.NulInCommit))

-- git accepts the commit: no message counts as an error
abbrev pub IsAcceptedCommit : Bool → Kind → List ℕ → Type 0
IsAcceptedCommit strict kind input = (it : Message) → IsCommitMessage kind input it
    → ¬ IsTrue (counts_as_error (severity_of strict it))

-- git has a message about the commit
abbrev pub HasCommitMessage : Kind → List ℕ → Type 0
HasCommitMessage kind input = (it : Message) × IsCommitMessage kind input it

-- the commit is clean: its lines come up to the committer's, and no byte is zero
abbrev pub IsCleanCommit : Kind → List ℕ → Type 0
IsCleanCommit kind input = ((rest : List ℕ) × CommitPart kind input (Ok rest)) × IsByteFree 0 input

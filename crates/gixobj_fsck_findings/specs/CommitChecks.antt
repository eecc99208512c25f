-- The findings of git-fsck about a commit, in their order (git-fsck, "FSCK MESSAGES"; git-config, `fsck.<msg-id>`). A
-- message is at the offset of its line, or of where a missing line was expected; that of a zero byte at the byte; that
-- of a header without an end at the end of the commit.
use Rattle.std.specs.Prelude.{◌≡◌, ◌⊎◌, ◌↔◌, [], ℕ, Bool, Contains, List, Option, Some, None, codes}
use Rattle.gixobj_hash.specs.ByteStrings.{IsByteFree}
use Rattle.gixobj_hash.specs.HeaderFormat.{BeginsWithOtherName}
use Rattle.gixobj_hash.specs.declared.hash.kind.Kind.{Kind}
use Rattle.gixobj_parse.specs.HeaderReading.{BeginsWithIdField, BeginsWithNoIdField}
use Rattle.gixobj_fsck.specs.Commits.{IsCommitMessage}
use Rattle.gixobj_fsck.specs.Lines.{BeginsWithName, IdLine}
use Rattle.gixobj_fsck_messages.specs.declared.finding.Finding.{Finding}
use Rattle.gixobj_fsck_messages.specs.declared.message.Message.{Message}
use Rattle.gixobj_fsck_messages.specs.declared.message.Message.TheVariants as message
use Rattle.gixobj_fsck_messages.specs.declared.severity.Severity.{Severity}
use Rattle.gixobj_fsck_findings.specs.Checks.{AndThen, Check, EndsAtFault, HaveDocumentedSeverities, listed}
use Rattle.gixobj_fsck_findings.specs.Checks.{messages_of, offset_of, rest_after}
use Rattle.gixobj_fsck_findings.specs.LineChecks.{ActorLineCheck, HeaderCheck, IsFirstByteAt}

-- lines of parents, each with an id in hex, come before the rest
pub data FollowsParents (kind : Kind) : List ℕ → List ℕ → Type 0 where
  no_parent : (input : List ℕ) → FollowsParents kind input input
  next_parent : (input hex between rest : List ℕ) → BeginsWithIdField (codes "parent") kind input hex between
      → FollowsParents kind between rest → FollowsParents kind input rest

-- all lines that begin with `parent ` come, each with an id in hex; or the check ends at the first without one
abbrev pub ParentsCheck : (Message → Severity) → Kind → List ℕ → Check
ParentsCheck severity kind object input before after outcome = (line : List ℕ) × FollowsParents kind input line
    × ((BeginsWithOtherName (codes "parent") line × (after ≡ before) × (outcome ≡ Some line))
    ⊎ (BeginsWithName (codes "parent") line × BeginsWithNoIdField (codes "parent") kind line
    × (after ≡ listed severity message.BadParentSha1 (offset_of object line) before) × (outcome ≡ None)))

-- the line of an author
abbrev pub AuthorCheck : (Message → Severity) → List ℕ → Check
AuthorCheck severity object = ActorLineCheck severity object (codes "author")

-- all lines that begin with `author ` come, up to an actor whose fault counts as an error
pub data AuthorLines (severity : Message → Severity) (object : List ℕ)
    : List ℕ → List Finding → List Finding → Option (List ℕ) → Type 0 where
  no_author : (input : List ℕ) (before : List Finding) → BeginsWithOtherName (codes "author") input
      → AuthorLines severity object input before before (Some input)
  last_author : (input : List ℕ) (before after : List Finding) → AuthorCheck severity object input before after None
      → AuthorLines severity object input before after None
  next_author : (input between : List ℕ) (before middle after : List Finding) (outcome : Option (List ℕ))
      → AuthorCheck severity object input before middle (Some between)
      → AuthorLines severity object between middle after outcome
      → AuthorLines severity object input before after outcome

-- no further author comes; or there are several, which is a message at the second, after the faults of all
abbrev pub MoreAuthorsCheck : (Message → Severity) → List ℕ → Check
MoreAuthorsCheck severity object input before after outcome =
    (BeginsWithOtherName (codes "author") input × (after ≡ before) × (outcome ≡ Some input))
    ⊎ (BeginsWithName (codes "author") input × AuthorLines severity object input before after None × (outcome ≡ None))
    ⊎ ((rest : List ℕ) × (middle : List Finding) × BeginsWithName (codes "author") input
    × AuthorLines severity object input before middle (Some rest)
    × (after ≡ listed severity message.MultipleAuthors (offset_of object input) middle)
    × (outcome ≡ rest_after severity message.MultipleAuthors rest))

-- the lines of authors, or none, after which the committer is checked if that doesn't count as an error
abbrev pub AuthorsCheck : (Message → Severity) → List ℕ → Check
AuthorsCheck severity object input before after outcome =
    (BeginsWithOtherName (codes "author") input
    × (after ≡ listed severity message.MissingAuthor (offset_of object input) before)
    × (outcome ≡ rest_after severity message.MissingAuthor input))
    ⊎ AndThen (AuthorCheck severity object) (MoreAuthorsCheck severity object) input before after outcome

-- the committer's line, or none, at which the check ends
abbrev pub CommitterCheck : (Message → Severity) → List ℕ → Check
CommitterCheck severity object input before after outcome =
    (BeginsWithOtherName (codes "committer") input
    × (after ≡ listed severity message.MissingCommitter (offset_of object input) before) × (outcome ≡ None))
    ⊎ ActorLineCheck severity object (codes "committer") input before after outcome

-- the first zero byte of the commit, if any; the check ends
abbrev pub ZeroCheck : (Message → Severity) → List ℕ → Check
ZeroCheck severity object input before after outcome = (outcome ≡ None) × ((IsByteFree 0 object × (after ≡ before))
    ⊎ ((offset : ℕ) × IsFirstByteAt 0 object offset × (after ≡ listed severity message.NulInCommit offset before)))

-- the authors and the committer, and then a zero byte
abbrev pub PeopleCheck : (Message → Severity) → List ℕ → Check
PeopleCheck severity object = AndThen (AuthorsCheck severity object)
    (AndThen (CommitterCheck severity object) (ZeroCheck severity object))

-- all of a commit
abbrev pub CommitCheck : (Message → Severity) → Kind → List ℕ → Check
CommitCheck severity kind object = AndThen (HeaderCheck severity)
    (AndThen (EndsAtFault severity object (IdLine (codes "tree") kind message.MissingTree message.BadTreeSha1))
    (AndThen (ParentsCheck severity kind object) (PeopleCheck severity object)))

-- the findings of git-fsck about the commit, by the severity of each message
abbrev pub AreCommitFindings : (Message → Severity) → Kind → List ℕ → List Finding → Type 0
AreCommitFindings severity kind commit findings = CommitCheck severity kind commit commit [] findings None

-- the findings about the commit are unique
abbrev pub HaveUniqueCommitFindings : (Message → Severity) → Kind → List ℕ → Type 0
HaveUniqueCommitFindings severity kind commit = (one other : List Finding)
    → AreCommitFindings severity kind commit one → AreCommitFindings severity kind commit other → one ≡ other

-- in a check without overrides the findings about the commit have the messages that git reports, as a set
abbrev pub HaveCommitMessages : Bool → (Message → Severity) → Kind → List ℕ → Type 0
HaveCommitMessages strict severity kind commit = HaveDocumentedSeverities strict severity
    → (findings : List Finding) → AreCommitFindings severity kind commit findings
    → (it : Message) → Contains (messages_of findings) it ↔ IsCommitMessage kind commit it

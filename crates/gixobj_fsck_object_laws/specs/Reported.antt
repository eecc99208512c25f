-- The messages that git-fsck has about each kind of object, whatever the severities, and those that it never has
-- (git-fsck, "FSCK MESSAGES").
use Rattle.std.specs.Prelude.{ℕ, All, List, ⊤}
use Rattle.gixobj_hash.specs.declared.hash.kind.Kind.{Kind}
use Rattle.gixobj_fsck_findings.specs.CommitChecks.{AreCommitFindings}
use Rattle.gixobj_fsck_findings.specs.TagChecks.{AreTagFindings}
use Rattle.gixobj_fsck_messages.specs.declared.finding.Finding.{Finding}
use Rattle.gixobj_fsck_messages.specs.declared.message.Message.{Message}
use Rattle.gixobj_fsck_messages.specs.declared.message.Message.TheVariants as message
use Rattle.gixobj_fsck_messages.specs.declared.severity.Severity.{Severity}

-- a message about an actor
abbrev pub IsAboutActors : Message → Type 0
IsAboutActors message.MissingNameBeforeEmail = ⊤
IsAboutActors message.BadName = ⊤
IsAboutActors message.MissingEmail = ⊤
IsAboutActors message.MissingSpaceBeforeEmail = ⊤
IsAboutActors message.BadEmail = ⊤
IsAboutActors message.MissingSpaceBeforeDate = ⊤
IsAboutActors message.ZeroPaddedDate = ⊤
IsAboutActors message.BadDateOverflow = ⊤
IsAboutActors message.BadDate = ⊤
IsAboutActors message.BadTimezone = ⊤
IsAboutActors it = ⊥

-- a message about commits
abbrev pub IsAboutCommits : Message → Type 0
IsAboutCommits message.NulInHeader = ⊤
IsAboutCommits message.UnterminatedHeader = ⊤
IsAboutCommits message.MissingTree = ⊤
IsAboutCommits message.BadTreeSha1 = ⊤
IsAboutCommits message.BadParentSha1 = ⊤
IsAboutCommits message.MissingAuthor = ⊤
IsAboutCommits message.MultipleAuthors = ⊤
IsAboutCommits message.MissingCommitter = ⊤
IsAboutCommits message.NulInCommit = ⊤
IsAboutCommits it = IsAboutActors it

-- a message about tags; `missingType` and `missingTag` are none, as a header ends in a newline
abbrev pub IsAboutTags : Message → Type 0
IsAboutTags message.NulInHeader = ⊤
IsAboutTags message.UnterminatedHeader = ⊤
IsAboutTags message.MissingObject = ⊤
IsAboutTags message.BadObjectSha1 = ⊤
IsAboutTags message.MissingTypeEntry = ⊤
IsAboutTags message.BadType = ⊤
IsAboutTags message.MissingTagEntry = ⊤
IsAboutTags message.BadTagName = ⊤
IsAboutTags message.MissingTaggerEntry = ⊤
IsAboutTags message.ExtraHeaderEntry = ⊤
IsAboutTags it = IsAboutActors it

-- the findings about a commit have messages about commits alone
abbrev pub HaveMessagesOfCommits : (Message → Severity) → Kind → List ℕ → Type 0
HaveMessagesOfCommits severity kind commit = (findings : List Finding) → AreCommitFindings severity kind commit findings
    → All (λ (it : Finding). IsAboutCommits it.message) findings

-- the findings about a tag have messages about tags alone
abbrev pub HaveMessagesOfTags : (Message → Severity) → Kind → List ℕ → Type 0
HaveMessagesOfTags severity kind tag = (findings : List Finding) → AreTagFindings severity kind tag findings
    → All (λ (it : Finding). IsAboutTags it.message) findings

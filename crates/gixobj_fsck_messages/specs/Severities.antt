-- The severities of git-fsck's messages (git-fsck, "FSCK MESSAGES", and its option `--strict`).
use Rattle.std.specs.Prelude.{◌≡◌, ◌≤◌, ◌⊎◌, ℕ, Bool, true, false, Option, Some, None}
use Rattle.gixobj_fsck_messages.specs.declared.message.Message.{Message}
use Rattle.gixobj_fsck_messages.specs.declared.message.Message.TheVariants as message
use Rattle.gixobj_fsck_messages.specs.declared.severity.Severity.{Severity}
use Rattle.gixobj_fsck_messages.specs.declared.severity.Severity.TheVariants as severity

-- the severity of a message in git's documentation
abbrev pub documented_severity : Message → Severity
documented_severity message.GitmodulesSymlink = severity.Error
documented_severity message.GitattributesSymlink = severity.Info
documented_severity message.GitignoreSymlink = severity.Info
documented_severity message.MailmapSymlink = severity.Info
documented_severity message.BadTree = severity.Error
documented_severity message.NullSha1 = severity.Warn
documented_severity message.FullPathname = severity.Warn
documented_severity message.EmptyName = severity.Warn
documented_severity message.HasDot = severity.Warn
documented_severity message.HasDotdot = severity.Warn
documented_severity message.HasDotgit = severity.Warn
documented_severity message.ZeroPaddedFilemode = severity.Warn
documented_severity message.BadFilemode = severity.Info
documented_severity message.DuplicateEntries = severity.Error
documented_severity message.TreeNotSorted = severity.Error
documented_severity message.NulInHeader = severity.Fatal
documented_severity message.UnterminatedHeader = severity.Fatal
documented_severity message.MissingTree = severity.Error
documented_severity message.BadTreeSha1 = severity.Error
documented_severity message.BadParentSha1 = severity.Error
documented_severity message.MissingAuthor = severity.Error
documented_severity message.MultipleAuthors = severity.Error
documented_severity message.MissingCommitter = severity.Error
documented_severity message.NulInCommit = severity.Warn
documented_severity message.MissingObject = severity.Error
documented_severity message.BadObjectSha1 = severity.Error
documented_severity message.MissingTypeEntry = severity.Error
documented_severity message.MissingType = severity.Error
documented_severity message.BadType = severity.Error
documented_severity message.MissingTagEntry = severity.Error
documented_severity message.MissingTag = severity.Error
documented_severity message.BadTagName = severity.Info
documented_severity message.MissingTaggerEntry = severity.Info
documented_severity message.MissingNameBeforeEmail = severity.Error
documented_severity message.BadName = severity.Error
documented_severity message.MissingEmail = severity.Error
documented_severity message.MissingSpaceBeforeEmail = severity.Error
documented_severity message.BadEmail = severity.Error
documented_severity message.MissingSpaceBeforeDate = severity.Error
documented_severity message.ZeroPaddedDate = severity.Error
documented_severity message.BadDateOverflow = severity.Error
documented_severity message.BadDate = severity.Error
documented_severity message.BadTimezone = severity.Error
documented_severity message.ExtraHeaderEntry = severity.Ignore
documented_severity message.UnknownType = severity.Error

-- the severity of a message: a strict check makes an error of a warning
abbrev pub made_strict : Bool → Severity → Severity
made_strict true severity.Warn = severity.Error
made_strict strict it = it

-- the severity of a message in a check that is strict or not
abbrev pub severity_of : Bool → Message → Severity
severity_of strict it = made_strict strict (documented_severity it)

-- the rank of a severity, higher for a worse one
abbrev pub rank : Severity → ℕ
rank severity.Ignore = 0
rank severity.Info = 1
rank severity.Warn = 2
rank severity.Error = 3
rank severity.Fatal = 4

-- a message of this severity counts as an error
abbrev pub counts_as_error : Severity → Bool
counts_as_error severity.Fatal = true
counts_as_error severity.Error = true
counts_as_error it = false

-- git-fsck prints a message of this severity
abbrev pub is_reported : Severity → Bool
is_reported severity.Ignore = false
is_reported it = true

-- the severity is one of the two, and neither is worse
abbrev pub IsWorse : Option Severity → Severity → Severity → Type 0
IsWorse None second it = it ≡ second
IsWorse (Some first) second it = ((it ≡ first) ⊎ (it ≡ second)) × (rank first ≤ rank it) × (rank second ≤ rank it)

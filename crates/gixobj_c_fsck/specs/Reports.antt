-- Results of the call that reports git's messages about an object (git-fsck, "FSCK MESSAGES").
use Rattle.std.specs.Prelude.{◌≡◌, ◌↔◌, ◌⊎◌, ℕ, Bool, IsTrue, List, Option, Some, ⊤}
use Rattle.gixobj_c_codes.specs.Codes.{done, out_of_memory, unknown_code}
use Rattle.gixobj_c_fsck.specs.Codes.{severity_code}
use Rattle.gixobj_c_fsck.specs.declared.reports.Report.{Report}
use Rattle.gixobj_fsck.specs.Commits.{IsAcceptedCommit, IsCommitMessage}
use Rattle.gixobj_fsck_messages.specs.Sets.{HasError, HasMessage, HasNoMessage, IsWorst}
use Rattle.gixobj_fsck_messages.specs.declared.message.Message.{Message}
use Rattle.gixobj_fsck_messages.specs.declared.set.Messages.{Messages}
use Rattle.gixobj_fsck_messages.specs.declared.severity.Severity.{Severity}
use Rattle.gixobj_fsck_tags.specs.Tags.{IsAcceptedTag, IsTagMessage}
use Rattle.gixobj_fsck_trees.specs.RawEntries.{BeginsWithSomeRawEntry}
use Rattle.gixobj_fsck_trees.specs.TreeMessages.{AreTreeMessages}
use Rattle.gixobj_hash.specs.declared.hash.kind.Kind as hash
use Rattle.gixobj_hash.specs.declared.kind.Kind.{Kind}
use Rattle.gixobj_hash.specs.declared.kind.Kind.TheVariants as kind

-- the set has exactly git's messages about an object of this kind; about a blob there are none
abbrev pub AreMessagesOf : Bool → hash.Kind → Kind → List ℕ → Messages → Type 0
AreMessagesOf strict hash kind.Tree bytes messages = AreTreeMessages hash strict bytes messages
AreMessagesOf strict hash kind.Blob bytes messages = HasNoMessage messages
AreMessagesOf strict hash kind.Commit bytes messages =
    (it : Message) → HasMessage messages it ↔ IsCommitMessage hash bytes it
AreMessagesOf strict hash kind.Tag bytes messages =
    (it : Message) → HasMessage messages it ↔ IsTagMessage hash bytes it

-- git accepts an object of this kind, about which it has these messages
abbrev pub IsAccepted : Bool → hash.Kind → Kind → List ℕ → Messages → Type 0
IsAccepted strict hash kind.Tree bytes messages = ¬ HasError strict messages
IsAccepted strict hash kind.Blob bytes messages = ⊤
IsAccepted strict hash kind.Commit bytes messages = IsAcceptedCommit strict hash bytes
IsAccepted strict hash kind.Tag bytes messages = IsAcceptedTag strict hash bytes

-- the number is 1 if this holds, and otherwise 0
abbrev pub IsFlagOf : Type 0 → ℕ → Type 0
IsFlagOf P flag = ((flag ≡ 1) × P) ⊎ ((flag ≡ 0) × ¬ P)

-- the report has these messages, by the bits of their numbers, and the number of their worst severity
pub record HasMessagesOf (strict : Bool) (messages : Messages) (report : Report) : Type 0 where
  pub bits : report.messages ≡ messages.bits
  pub worst : Option Severity
  pub is_worst : IsWorst strict messages worst
  pub code : report.worst ≡ severity_code worst

-- the report has these messages and this verdict
abbrev pub IsReportOfSet : Bool → Messages → Bool → Report → Type 0
IsReportOfSet strict messages is_accepted report =
    HasMessagesOf strict messages report × IsFlagOf (IsTrue is_accepted) report.is_accepted

-- the report has exactly git's messages about an object of this kind, and its verdict
pub record IsReport (strict : Bool) (hash : hash.Kind) (kind : Kind) (bytes : List ℕ) (report : Report) : Type 0 where
  pub messages : Messages
  pub reported : AreMessagesOf strict hash kind bytes messages
  pub found : HasMessagesOf strict messages report
  pub verdict : IsFlagOf (IsAccepted strict hash kind bytes messages) report.is_accepted

-- an allocation is tried: for the first entry of a tree
abbrev pub Allocates : hash.Kind → Kind → List ℕ → Type 0
Allocates hash kind.Tree bytes = BeginsWithSomeRawEntry hash bytes
Allocates hash kind.Blob bytes = ⊥
Allocates hash kind.Commit bytes = ⊥
Allocates hash kind.Tag bytes = ⊥

-- git's messages are reported, or an allocation failed or a number is unknown, and then nothing is written
abbrev pub IsFsckCall : Option hash.Kind → Option Kind → Option Bool → List ℕ → Report → Report → ℕ → Type 0
IsFsckCall (Some hash) (Some kind) (Some strict) bytes before after status =
    ((status ≡ done) × IsReport strict hash kind bytes after)
    ⊎ ((status ≡ out_of_memory) × Allocates hash kind bytes × (after ≡ before))
IsFsckCall _ _ _ bytes before after status = (status ≡ unknown_code) × (after ≡ before)

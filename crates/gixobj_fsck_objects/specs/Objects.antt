-- What git accepts: objects of which no message counts as an error (git-fsck; git-config, `receive.fsckObjects`).
use Rattle.std.specs.Prelude.{◌≡◌, ℕ, Bool, true, IsTrue, List, [], ⊤}
use Rattle.gixobj_fsck.specs.Commits.{HasCommitMessage, IsAcceptedCommit}
use Rattle.gixobj_fsck_findings.specs.CommitChecks.{AreCommitFindings}
use Rattle.gixobj_fsck_findings.specs.Parser.{IsParsedCommit, IsParsedTag}
use Rattle.gixobj_fsck_findings.specs.TagChecks.{AreTagFindings}
use Rattle.gixobj_fsck_messages.specs.Options.{severity_by}
use Rattle.gixobj_fsck_messages.specs.Severities.{counts_as_error, severity_of}
use Rattle.gixobj_fsck_messages.specs.declared.message.Message.{Message}
use Rattle.gixobj_fsck_messages.specs.declared.finding.Finding.{Finding}
use Rattle.gixobj_fsck_messages.specs.declared.options.Options.{Options}
use Rattle.gixobj_fsck_tags.specs.Tags.{HasTagMessage, IsAcceptedTag}
use Rattle.gixobj_fsck_tree_findings.specs.TreeFindings.{AllocatesFindings, AreTreeFindings}
use Rattle.gixobj_fsck_trees.specs.RawEntries.{BeginsWithSomeRawEntry, RawEntryView, ReadsTree}
use Rattle.gixobj_fsck_trees.specs.TreeMessages.{ReportsOfTree}
use Rattle.gixobj_hash.specs.Runs.{Ending}
use Rattle.gixobj_hash.specs.declared.hash.kind.Kind.{Kind}
use Rattle.gixobj_hash.specs.declared.kind.Kind as object
use Rattle.gixobj_hash.specs.declared.kind.Kind.TheVariants as object_kind

-- git reports this message about the bytes as a tree
abbrev pub IsTreeMessage : Bool → Kind → List ℕ → Message → Type 0
IsTreeMessage strict kind bytes it = (entries : List RawEntryView) × (ending : Ending)
    × ReadsTree kind bytes entries ending × ReportsOfTree strict entries ending it

-- git accepts the tree: no message counts as an error
abbrev pub IsAcceptedTree : Bool → Kind → List ℕ → Type 0
IsAcceptedTree strict kind bytes = (it : Message) → IsTreeMessage strict kind bytes it
    → ¬ IsTrue (counts_as_error (severity_of strict it))

-- git accepts the object; it has no message about a blob
abbrev pub IsAcceptedObject : Bool → object.Kind → Kind → List ℕ → Type 0
IsAcceptedObject strict object_kind.Tree kind bytes = IsAcceptedTree strict kind bytes
IsAcceptedObject strict object_kind.Blob kind bytes = ⊤
IsAcceptedObject strict object_kind.Commit kind bytes = IsAcceptedCommit strict kind bytes
IsAcceptedObject strict object_kind.Tag kind bytes = IsAcceptedTag strict kind bytes

-- git takes the object into a repository that has `receive.fsckObjects`, contents of `.gitmodules` and
-- `.gitattributes` aside: git's parser takes it, and the strict check accepts it. The parser takes each tree
abbrev pub IsReceivedObject : object.Kind → Kind → List ℕ → Type 0
IsReceivedObject object_kind.Tree kind bytes = IsAcceptedTree true kind bytes
IsReceivedObject object_kind.Blob kind bytes = ⊤
IsReceivedObject object_kind.Commit kind bytes = IsParsedCommit kind bytes × IsAcceptedCommit true kind bytes
IsReceivedObject object_kind.Tag kind bytes = IsParsedTag kind bytes × IsAcceptedTag true kind bytes

-- git's findings about the object, in git's order; there are none about a blob
abbrev pub AreFindings : Options → object.Kind → Kind → List ℕ → List Finding → Type 0
AreFindings options object_kind.Tree kind bytes findings = AreTreeFindings kind options bytes findings
AreFindings options object_kind.Blob kind bytes findings = findings ≡ []
AreFindings options object_kind.Commit kind bytes findings = AreCommitFindings (severity_by options) kind bytes findings
AreFindings options object_kind.Tag kind bytes findings = AreTagFindings (severity_by options) kind bytes findings

-- the check of the object may allocate: it is a tree that begins with an entry
abbrev pub MayAllocate : object.Kind → Kind → List ℕ → Type 0
MayAllocate object_kind.Tree kind bytes = BeginsWithSomeRawEntry kind bytes
MayAllocate object_kind.Blob kind bytes = ⊥
MayAllocate object_kind.Commit kind bytes = ⊥
MayAllocate object_kind.Tag kind bytes = ⊥

-- the findings about the object may allocate: it is a tree that begins with an entry or of which `badTree` is reported;
-- or a commit or a tag about which git has a message, or a tag with an extra header
abbrev pub MayAllocateFindings : Options → object.Kind → Kind → List ℕ → Type 0
MayAllocateFindings options object_kind.Tree kind bytes = AllocatesFindings kind options bytes
MayAllocateFindings options object_kind.Blob kind bytes = ⊥
MayAllocateFindings options object_kind.Commit kind bytes = HasCommitMessage kind bytes
MayAllocateFindings options object_kind.Tag kind bytes = HasTagMessage kind bytes

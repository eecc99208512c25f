-- The findings of git-fsck about a tree, in its order (git-fsck, "FSCK MESSAGES"), at offsets of our own rule.
use Rattle.std.specs.Prelude.{◌≡◌, ◌≢◌, ◌⊎◌, ◌++◌, ℕ, Bool, IsTrue, List, [], ◌∷◌, replicate}
use Rattle.gixobj_fsck_messages.specs.Options.{is_reported_by, is_strict_by}
use Rattle.gixobj_fsck_messages.specs.declared.finding.Finding.{Finding}
use Rattle.gixobj_fsck_messages.specs.declared.message.Message.{Message}
use Rattle.gixobj_fsck_messages.specs.declared.message.Message.TheVariants as message
use Rattle.gixobj_fsck_messages.specs.declared.options.Options.{Options}
use Rattle.gixobj_fsck_names.specs.DotFiles.{IsGitAttributes, IsGitIgnore, IsGitModulesFile, IsGitModulesOnNtfs}
use Rattle.gixobj_fsck_names.specs.DotFiles.{IsMailmap}
use Rattle.gixobj_fsck_names.specs.DotGit.{IsCountAfterBackslashes}
use Rattle.gixobj_hash.specs.Runs.{Ending, broken}
use Rattle.gixobj_hash.specs.declared.hash.kind.Kind.{Kind}
use Rattle.gixobj_fsck_trees.specs.EntryMessages.{HasBadMode, HasFault, IsLink}
use Rattle.gixobj_fsck_trees.specs.FirstOffsets.{IsFirstOffset, IsNoName, IsRepeatOffset, IsStepOffset}
use Rattle.gixobj_fsck_trees.specs.RawEntries.{BeginsWithSomeRawEntry, RawEntryView, ReadsTree, end_of}
use Rattle.gixobj_fsck_trees.specs.TreeMessages.{compared}
use Rattle.gixobj_fsck_tree_findings.specs.Findings.{ListsInOrder, finding_at, reported}

-- the messages about the name of a link, in git's order
abbrev pub link_order : List Message
link_order = message.GitmodulesSymlink ∷ message.GitattributesSymlink ∷ message.GitignoreSymlink ∷
    message.MailmapSymlink ∷ []

-- the other messages about trees, in git's order
abbrev pub fault_order : List Message
fault_order = message.BadTree ∷ message.NullSha1 ∷ message.FullPathname ∷ message.HasDot ∷ message.HasDotdot ∷
    message.HasDotgit ∷ message.ZeroPaddedFilemode ∷ message.BadFilemode ∷ message.DuplicateEntries ∷
    message.TreeNotSorted ∷ []

-- the name is that of the message's file, backslashes aside
abbrev pub HasFileName : List ℕ → Message → Type 0
HasFileName name it = ((it ≡ message.GitmodulesSymlink) × IsGitModulesFile name)
    ⊎ ((it ≡ message.GitattributesSymlink) × IsGitAttributes name)
    ⊎ ((it ≡ message.GitignoreSymlink) × IsGitIgnore name)
    ⊎ ((it ≡ message.MailmapSymlink) × IsMailmap name)

-- the offset of a link whose name is that of the message's file
abbrev pub IsLinkOffset : RawEntryView → Message → ℕ → Type 0
IsLinkOffset e it offset = HasFileName (e.name) it × (offset ≡ e.offset)

-- the findings about a link: those about its name, and `gitmodulesSymlink` once more for each backslash before what
-- NTFS takes for `.gitmodules`
abbrev pub AreLinkFindings : RawEntryView → List Finding → Type 0
AreLinkFindings e findings = (named : List Finding) × (count : ℕ) × ListsInOrder (IsLinkOffset e) link_order named
    × IsCountAfterBackslashes IsGitModulesOnNtfs (e.name) count
    × (findings ≡ named ++ replicate count (finding_at message.GitmodulesSymlink (e.offset)))

-- the findings about an entry as a link: none if it isn't one
abbrev pub AreEntryFindings : RawEntryView → List Finding → Type 0
AreEntryFindings e findings = (IsLink e × AreLinkFindings e findings) ⊎ ((¬ IsLink e) × (findings ≡ []))

-- the findings about links, in the order of the entries
abbrev pub AreFindingsOfLinks : List RawEntryView → List Finding → Type 0
AreFindingsOfLinks [] findings = findings ≡ []
AreFindingsOfLinks (e ∷ entries) findings = (here rest : List Finding) × AreEntryFindings e here
    × AreFindingsOfLinks entries rest × (findings ≡ here ++ rest)

-- the offset of what another message is about: where reading ends, the first repeated name, the first entry that isn't
-- after its neighbour, or the first entry with the fault; git compares no modes, names or order of the last entry of a
-- broken tree
abbrev pub IsFaultOffset : Bool → List RawEntryView → Ending → Message → ℕ → Type 0
IsFaultOffset strict entries ending message.BadTree offset = (ending ≡ broken) × (offset ≡ end_of entries)
IsFaultOffset strict entries ending message.BadFilemode offset =
    IsFirstOffset (HasBadMode strict) (compared entries ending) offset
IsFaultOffset strict entries ending message.DuplicateEntries offset =
    IsRepeatOffset IsNoName (compared entries ending) offset
IsFaultOffset strict entries ending message.TreeNotSorted offset = IsStepOffset (compared entries ending) offset
IsFaultOffset strict entries ending it offset = IsFirstOffset (λ e. HasFault e it) entries offset

-- a message about the tree has an offset, and the options report it
abbrev pub IsReportedFault : Options → List RawEntryView → Ending → Type 0
IsReportedFault options entries ending = (it : Message) × (offset : ℕ) × IsTrue (is_reported_by options it)
    × IsFaultOffset (is_strict_by options) entries ending it offset

-- the findings about these bytes as a tree: those about links, and then the others, as far as the options report them
abbrev pub AreTreeFindings : Kind → Options → List ℕ → List Finding → Type 0
AreTreeFindings kind options bytes findings = (entries : List RawEntryView) × (ending : Ending)
    × (links faults : List Finding) × ReadsTree kind bytes entries ending × AreFindingsOfLinks entries links
    × ListsInOrder (IsFaultOffset (is_strict_by options) entries ending) fault_order faults
    × (findings ≡ reported options (links ++ faults))

-- entries or findings allocate: the bytes begin with an entry, or have a byte and `badTree` is reported
abbrev pub AllocatesFindings : Kind → Options → List ℕ → Type 0
AllocatesFindings kind options bytes = BeginsWithSomeRawEntry kind bytes
    ⊎ ((bytes ≢ []) × IsTrue (is_reported_by options message.BadTree))

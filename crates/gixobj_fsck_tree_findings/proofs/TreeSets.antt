-- The findings about a tree have the messages of the set about it.
use Rattle.std.proofs.Common.{◌≡◌, ◌≢◌, ◌∙◌, ◌⊎◌, ◌↔◌, ◌++◌, Bool, ℕ, List, [], ◌∷◌, IsTrue, inl, inr, refl, replicate, subst, sym, true, false}
use Rattle.std.specs.Prelude.{⊤}
use Rattle.gixobj_fsck_messages.specs.Options.{is_reported_by, is_strict_by}
use Rattle.gixobj_fsck_messages.specs.Severities.{is_reported, severity_of}
use Rattle.gixobj_fsck_messages.specs.Sets.{HasMessage}
use Rattle.gixobj_fsck_messages.specs.declared.finding.Finding.{Finding}
use Rattle.gixobj_fsck_messages.specs.declared.message.Message.{Message}
use Rattle.gixobj_fsck_messages.specs.declared.message.Message.TheVariants as message
use Rattle.gixobj_fsck_messages.specs.declared.options.Options.{Options}
use Rattle.gixobj_fsck_messages.specs.declared.severity.Severity.{Severity}
use Rattle.gixobj_fsck_names.specs.DotFiles.{IsGitModules, IsGitModulesOnNtfs}
use Rattle.gixobj_hash.specs.Runs.{Ending}
use Rattle.gixobj_hash.specs.declared.hash.kind.Kind.{Kind}
use Rattle.gixobj_fsck_trees.proofs.FirstOffsets.{entry_of_first, has_entry_of, has_entry_split, name_twice_of_repeat, no_entry_of_no_first, no_name_twice}
use Rattle.gixobj_fsck_trees.proofs.FirstOffsets.{no_step_of_no_first, step_of_first}
use Rattle.gixobj_fsck_trees.proofs.UniqueReads.{tree_reads_uniquely}
use Rattle.gixobj_fsck_trees.specs.EntryMessages.{HasBadMode, HasEntryMessage, HasFault, HasLinkMessage, IsLink}
use Rattle.gixobj_fsck_trees.specs.FirstOffsets.{IsFirstOffset}
use Rattle.gixobj_fsck_trees.specs.RawEntries.{RawEntryView}
use Rattle.gixobj_fsck_trees.specs.TreeMessages.{HasEntry, ReportsOfTree, compared}
use Rattle.gixobj_fsck_tree_findings.proofs.FindingSets.{after_backslash_of_count, append_has, count_of_after_backslash, has_of_append, has_of_offset}
use Rattle.gixobj_fsck_tree_findings.proofs.FindingSets.{has_of_replicate, has_of_reported, offset_of_has, replicate_has}
use Rattle.gixobj_fsck_tree_findings.specs.Findings.{HasFinding, ListsInOrder, finding_at, reported}
use Rattle.gixobj_fsck_tree_findings.specs.Laws.{HaveDefaultMessages, HaveSetOfMessages, HaveTreeMessages, IsAmong, OverridesNothing}
use Rattle.gixobj_fsck_tree_findings.specs.TreeFindings.{AreEntryFindings, AreFindingsOfLinks, AreLinkFindings, AreTreeFindings, HasFileName, IsFaultOffset}
use Rattle.gixobj_fsck_tree_findings.specs.TreeFindings.{IsLinkOffset, fault_order, link_order}

-- ---- links

link_of_file : (e : RawEntryView) (it : Message) → HasFileName e.name it → HasLinkMessage e it
link_of_file e it (inl (same, inl hfs)) = inl (same, inl hfs)
link_of_file e it (inl (same, inr ntfs)) = inl (same, inr (inl ntfs))
link_of_file e it (inr other) = inr other

-- the finding about backslashes
abbrev pub again_at : RawEntryView → Finding
again_at e = finding_at message.GitmodulesSymlink e.offset

link_of_has : (e : RawEntryView) (it : Message) (findings : List Finding) → AreLinkFindings e findings → HasFinding it findings → HasLinkMessage e it
link_of_has e it findings are has =
    let joined = subst (λ (all : List Finding). HasFinding it all) are.4 has in
    elim (has_of_append it are.0 (replicate are.1 (again_at e)) joined) [
      | inl named ↦ link_of_file e it (offset_of_has (IsLinkOffset e) link_order are.0 it are.2 named).1.1.0
      | inr again ↦ let more = has_of_replicate it (again_at e) are.1 again in
          inl (sym more.0, inr (inr (after_backslash_of_count IsGitModulesOnNtfs e.name are.1 are.3 more.1)))
    ]

named_has : (e : RawEntryView) (it : Message) (findings : List Finding) → AreLinkFindings e findings → IsAmong it link_order → HasFileName e.name it
    → HasFinding it findings
named_has e it findings are among file =
    subst (λ (all : List Finding). HasFinding it all) (sym are.4)
    (append_has it are.0 (replicate are.1 (again_at e))
    (inl (has_of_offset (IsLinkOffset e) link_order are.0 it are.2 among (λ none. none e.offset (file, refl)))))

has_of_link : (e : RawEntryView) (it : Message) (findings : List Finding) → AreLinkFindings e findings → HasLinkMessage e it → HasFinding it findings
has_of_link e it findings are (inl (same, inl hfs)) = named_has e it findings are (inl same) (inl (same, inl hfs))
has_of_link e it findings are (inl (same, inr (inl ntfs))) = named_has e it findings are (inl same) (inl (same, inr ntfs))
has_of_link e it findings are (inl (same, inr (inr after))) =
    subst (λ (all : List Finding). HasFinding it all) (sym are.4)
    (append_has it are.0 (replicate are.1 (again_at e))
    (inr (replicate_has it (again_at e) are.1 (sym same) (count_of_after_backslash IsGitModulesOnNtfs e.name are.1 are.3 after))))
has_of_link e it findings are (inr (inl file)) = named_has e it findings are (inr (inl file.0)) (inr (inl file))
has_of_link e it findings are (inr (inr (inl file))) = named_has e it findings are (inr (inr (inl file.0))) (inr (inr (inl file)))
has_of_link e it findings are (inr (inr (inr file))) = named_has e it findings are (inr (inr (inr (inl file.0)))) (inr (inr (inr file)))

-- the entry is a link that the message is about
abbrev pub IsReportedLink : Message → RawEntryView → Type 0
IsReportedLink it e = IsLink e × HasLinkMessage e it

entry_of_has : (e : RawEntryView) (it : Message) (findings : List Finding) → AreEntryFindings e findings → HasFinding it findings → IsReportedLink it e
entry_of_has e it findings (inl link) has = (link.0, link_of_has e it findings link.1 has)
entry_of_has e it findings (inr other) has = absurd (subst (λ (all : List Finding). HasFinding it all) other.1 has)

has_of_entry : (e : RawEntryView) (it : Message) (findings : List Finding) → AreEntryFindings e findings → IsReportedLink it e → HasFinding it findings
has_of_entry e it findings (inl link) reports = has_of_link e it findings link.1 reports.1
has_of_entry e it findings (inr other) reports = absurd (other.0 reports.0)

links_of_has : (entries : List RawEntryView) (it : Message) (findings : List Finding) → AreFindingsOfLinks entries findings → HasFinding it findings
    → HasEntry (IsReportedLink it) entries
links_of_has [] it findings are has = absurd (subst (λ (all : List Finding). HasFinding it all) are has)
links_of_has (e ∷ entries) it findings are has =
    elim (has_of_append it are.0 are.1 (subst (λ (all : List Finding). HasFinding it all) are.4 has)) [
      | inl here ↦ inl (entry_of_has e it are.0 are.2 here)
      | inr later ↦ inr (links_of_has entries it are.1 are.3 later)
    ]

has_of_links : (entries : List RawEntryView) (it : Message) (findings : List Finding) → AreFindingsOfLinks entries findings
    → HasEntry (IsReportedLink it) entries → HasFinding it findings
has_of_links [] it findings are has = absurd has
has_of_links (e ∷ entries) it findings are (inl here) =
    subst (λ (all : List Finding). HasFinding it all) (sym are.4) (append_has it are.0 are.1 (inl (has_of_entry e it are.0 are.2 here)))
has_of_links (e ∷ entries) it findings are (inr later) =
    subst (λ (all : List Finding). HasFinding it all) (sym are.4) (append_has it are.0 are.1 (inr (has_of_links entries it are.1 are.3 later)))

-- ---- faults

report_of_fault : (strict : Bool) (entries : List RawEntryView) (ending : Ending) (it : Message) (offset : ℕ)
    → IsFaultOffset strict entries ending it offset → ReportsOfTree strict entries ending it
report_of_fault strict entries ending message.BadTree offset fault = inr (inl (refl, fault.0))
report_of_fault strict entries ending message.BadFilemode offset fault =
    inr (inr (inl (refl, entry_of_first (HasBadMode strict) (compared entries ending) offset fault)))
report_of_fault strict entries ending message.DuplicateEntries offset fault =
    inr (inr (inr (inl (refl, name_twice_of_repeat (compared entries ending) offset fault))))
report_of_fault strict entries ending message.TreeNotSorted offset fault =
    inr (inr (inr (inr (refl, step_of_first (compared entries ending) offset fault))))
report_of_fault strict entries ending it offset fault =
    inl (has_entry_of (λ e. HasFault e it) (λ e. HasEntryMessage e it) (λ e has. inr has) entries
    (entry_of_first (λ e. HasFault e it) entries offset fault))

-- the message is about single entries, but not about links or modes
abbrev pub IsEntryFault : Message → Type 0
IsEntryFault it = (it ≡ message.FullPathname) ⊎ (it ≡ message.HasDot) ⊎ (it ≡ message.HasDotdot) ⊎ (it ≡ message.HasDotgit)
    ⊎ (it ≡ message.NullSha1) ⊎ (it ≡ message.ZeroPaddedFilemode)

entry_fault : (e : RawEntryView) (it : Message) → HasFault e it → IsEntryFault it
entry_fault e it (inl (inl full)) = inl full.0
entry_fault e it (inl (inr (inl dot))) = inr (inl dot.0)
entry_fault e it (inl (inr (inr (inl dotdot)))) = inr (inr (inl dotdot.0))
entry_fault e it (inl (inr (inr (inr dotgit)))) = inr (inr (inr (inl dotgit.0)))
entry_fault e it (inr (inl null)) = inr (inr (inr (inr (inl null.0))))
entry_fault e it (inr (inr padded)) = inr (inr (inr (inr (inr padded.0))))

some_entry_fault : (entries : List RawEntryView) (it : Message) → HasEntry (λ e. HasFault e it) entries → IsEntryFault it
some_entry_fault [] it has = absurd has
some_entry_fault (e ∷ entries) it (inl here) = entry_fault e it here
some_entry_fault (e ∷ entries) it (inr later) = some_entry_fault entries it later

-- a fault of single entries has an offset
abbrev pub HasOffset : Bool → List RawEntryView → Ending → Message → Type 0
HasOffset strict entries ending it = ((offset : ℕ) → ¬ IsFaultOffset strict entries ending it offset) → ⊥

offset_of_entry : (strict : Bool) (entries : List RawEntryView) (ending : Ending) (it : Message) → IsEntryFault it
    → HasEntry (λ e. HasFault e it) entries → IsAmong it fault_order × HasOffset strict entries ending it
offset_of_entry strict entries ending it (inl same) has = (
  inr (inr (inl same)),
  subst (λ (m : Message). HasOffset strict entries ending m) (sym same)
      (λ none. no_entry_of_no_first (λ e. HasFault e message.FullPathname) entries none
      (subst (λ (m : Message). HasEntry (λ e. HasFault e m) entries) same has)),
)
offset_of_entry strict entries ending it (inr (inl same)) has = (
  inr (inr (inr (inl same))),
  subst (λ (m : Message). HasOffset strict entries ending m) (sym same)
      (λ none. no_entry_of_no_first (λ e. HasFault e message.HasDot) entries none
      (subst (λ (m : Message). HasEntry (λ e. HasFault e m) entries) same has)),
)
offset_of_entry strict entries ending it (inr (inr (inl same))) has = (
  inr (inr (inr (inr (inl same)))),
  subst (λ (m : Message). HasOffset strict entries ending m) (sym same)
      (λ none. no_entry_of_no_first (λ e. HasFault e message.HasDotdot) entries none
      (subst (λ (m : Message). HasEntry (λ e. HasFault e m) entries) same has)),
)
offset_of_entry strict entries ending it (inr (inr (inr (inl same)))) has = (
  inr (inr (inr (inr (inr (inl same))))),
  subst (λ (m : Message). HasOffset strict entries ending m) (sym same)
      (λ none. no_entry_of_no_first (λ e. HasFault e message.HasDotgit) entries none
      (subst (λ (m : Message). HasEntry (λ e. HasFault e m) entries) same has)),
)
offset_of_entry strict entries ending it (inr (inr (inr (inr (inl same))))) has = (
  inr (inl same),
  subst (λ (m : Message). HasOffset strict entries ending m) (sym same)
      (λ none. no_entry_of_no_first (λ e. HasFault e message.NullSha1) entries none
      (subst (λ (m : Message). HasEntry (λ e. HasFault e m) entries) same has)),
)
offset_of_entry strict entries ending it (inr (inr (inr (inr (inr same))))) has = (
  inr (inr (inr (inr (inr (inr (inl same)))))),
  subst (λ (m : Message). HasOffset strict entries ending m) (sym same)
      (λ none. no_entry_of_no_first (λ e. HasFault e message.ZeroPaddedFilemode) entries none
      (subst (λ (m : Message). HasEntry (λ e. HasFault e m) entries) same has)),
)

-- a reported message is about a link, or has an offset
offset_of_report : (strict : Bool) (entries : List RawEntryView) (ending : Ending) (it : Message) → ReportsOfTree strict entries ending it
    → HasEntry (IsReportedLink it) entries ⊎ (IsAmong it fault_order × HasOffset strict entries ending it)
offset_of_report strict entries ending it (inl has) = elim (has_entry_split (IsReportedLink it) (λ e. HasFault e it) entries has) [
  | inl link ↦ inl link
  | inr fault ↦ inr (offset_of_entry strict entries ending it (some_entry_fault entries it fault) fault)
]
offset_of_report strict entries ending it (inr (inl (same, is))) =
    inr (inl same, subst (λ (m : Message). HasOffset strict entries ending m) (sym same) (λ none. none _ (is, refl)))
offset_of_report strict entries ending it (inr (inr (inl (same, has)))) =
    inr (
      inr (inr (inr (inr (inr (inr (inr (inl same))))))),
      subst (λ (m : Message). HasOffset strict entries ending m) (sym same)
          (λ none. no_entry_of_no_first (HasBadMode strict) (compared entries ending) none has),
    )
offset_of_report strict entries ending it (inr (inr (inr (inl (same, twice))))) =
    inr (
      inr (inr (inr (inr (inr (inr (inr (inr (inl same)))))))),
      subst (λ (m : Message). HasOffset strict entries ending m) (sym same)
          (λ none. no_name_twice (compared entries ending) none twice),
    )
offset_of_report strict entries ending it (inr (inr (inr (inr (same, down))))) =
    inr (
      inr (inr (inr (inr (inr (inr (inr (inr (inr (inl same))))))))),
      subst (λ (m : Message). HasOffset strict entries ending m) (sym same)
          (λ none. no_step_of_no_first (compared entries ending) none down),
    )

-- ---- the tree

report_of_has : (strict : Bool) (entries : List RawEntryView) (ending : Ending) (it : Message) (links faults : List Finding)
    → AreFindingsOfLinks entries links → ListsInOrder (IsFaultOffset strict entries ending) fault_order faults
    → HasFinding it (links ++ faults) → ReportsOfTree strict entries ending it
report_of_has strict entries ending it links faults are lists has = elim (has_of_append it links faults has) [
  | inl link ↦ inl (has_entry_of (IsReportedLink it) (λ e. HasEntryMessage e it) (λ e is. inl is) entries (links_of_has entries it links are link))
  | inr fault ↦ let found = offset_of_has (IsFaultOffset strict entries ending) fault_order faults it lists fault in
      report_of_fault strict entries ending it found.1.0 found.1.1
]

has_of_report : (strict : Bool) (entries : List RawEntryView) (ending : Ending) (it : Message) (links faults : List Finding)
    → AreFindingsOfLinks entries links → ListsInOrder (IsFaultOffset strict entries ending) fault_order faults
    → ReportsOfTree strict entries ending it → HasFinding it (links ++ faults)
has_of_report strict entries ending it links faults are lists reports =
    append_has it links faults (elim (offset_of_report strict entries ending it reports) [
      | inl link ↦ inl (has_of_links entries it links are link)
      | inr fault ↦ inr (has_of_offset (IsFaultOffset strict entries ending) fault_order faults it lists fault.0 fault.1)
    ])

-- a message has a finding if and only if it is in the set and reported
pub findings_have_messages : (kind : Kind) (options : Options) (bytes : List ℕ) → HaveSetOfMessages kind options bytes
findings_have_messages kind options bytes findings messages one two it =
    let strict = is_strict_by options in
    let same = tree_reads_uniquely kind bytes two.0 one.0 two.1 one.1 two.2 one.4 in
    let filtered = has_of_reported options it (one.2 ++ one.3) in
    let set : HasMessage messages it ↔ ReportsOfTree strict one.0 one.1 it =
    subst (λ (ending : Ending). HasMessage messages it ↔ ReportsOfTree strict one.0 ending it) same.1
    (subst (λ (entries : List RawEntryView). HasMessage messages it ↔ ReportsOfTree strict entries two.1 it) same.0 (two.3 it)) in (
      λ has. let both = filtered.0 (subst (λ (all : List Finding). HasFinding it all) one.7 has) in
          (set.1 (report_of_has strict one.0 one.1 it one.2 one.3 one.5 one.6 both.0), both.1),
      λ both. subst (λ (all : List Finding). HasFinding it all) (sym one.7)
          (filtered.1 (has_of_report strict one.0 one.1 it one.2 one.3 one.5 one.6 (set.0 both.0), both.1)),
    )

-- ---- messages about trees

among_append : (it : Message) (a b : List Message) → IsAmong it a ⊎ IsAmong it b → IsAmong it (a ++ b)
among_append it [] b (inl among) = absurd among
among_append it [] b (inr among) = among
among_append it (first ∷ a) b (inl (inl same)) = inl same
among_append it (first ∷ a) b (inl (inr later)) = inr (among_append it a b (inl later))
among_append it (first ∷ a) b (inr other) = inr (among_append it a b (inr other))

link_among : (e : RawEntryView) (it : Message) → HasLinkMessage e it → IsAmong it link_order
link_among e it (inl file) = inl file.0
link_among e it (inr (inl file)) = inr (inl file.0)
link_among e it (inr (inr (inl file))) = inr (inr (inl file.0))
link_among e it (inr (inr (inr file))) = inr (inr (inr (inl file.0)))

some_link_among : (entries : List RawEntryView) (it : Message) → HasEntry (IsReportedLink it) entries → IsAmong it link_order
some_link_among [] it has = absurd has
some_link_among (e ∷ entries) it (inl here) = link_among e it here.1
some_link_among (e ∷ entries) it (inr later) = some_link_among entries it later

among_of_report : (strict : Bool) (entries : List RawEntryView) (ending : Ending) (it : Message) → ReportsOfTree strict entries ending it
    → IsAmong it (link_order ++ fault_order)
among_of_report strict entries ending it reports = among_append it link_order fault_order
    (elim (offset_of_report strict entries ending it reports) [
      | inl link ↦ inl (some_link_among entries it link)
      | inr fault ↦ inr fault.0
    ])

-- none of the messages is this one
abbrev pub AreOthers : Message → List Message → Type 0
AreOthers it [] = ⊤
AreOthers it (first ∷ order) = (it ≢ first) × AreOthers it order

not_among : (it : Message) (order : List Message) → AreOthers it order → ¬ IsAmong it order
not_among it [] others among = among
not_among it (first ∷ order) others (inl same) = others.0 same
not_among it (first ∷ order) others (inr later) = not_among it order others.1 later

empty_name_others : AreOthers message.EmptyName (link_order ++ fault_order)
empty_name_others = (
  λ it. cc it,
  (
    λ it. cc it,
    (
      λ it. cc it,
      (
        λ it. cc it,
        (
          λ it. cc it,
          (
            λ it. cc it,
            (
              λ it. cc it,
              (λ it. cc it, (λ it. cc it, (λ it. cc it, (λ it. cc it, (λ it. cc it, (λ it. cc it, (λ it. cc it, tt))))))),
            ),
          ),
        ),
      ),
    ),
  ),
)

report_of_findings : (kind : Kind) (options : Options) (bytes : List ℕ) (findings : List Finding) (it : Message)
    → (are : AreTreeFindings kind options bytes findings) → HasFinding it findings → ReportsOfTree (is_strict_by options) are.0 are.1 it
report_of_findings kind options bytes findings it are has =
    let both = (has_of_reported options it (are.2 ++ are.3)).0 (subst (λ (all : List Finding). HasFinding it all) are.7 has) in
    report_of_has (is_strict_by options) are.0 are.1 it are.2 are.3 are.5 are.6 both.0

-- a finding has a message about trees, and never `emptyName`
pub findings_about_trees : (kind : Kind) (options : Options) (bytes : List ℕ) → HaveTreeMessages kind options bytes
findings_about_trees kind options bytes findings are =
    let among : (it : Message) → HasFinding it findings → IsAmong it (link_order ++ fault_order) =
    (λ it has. among_of_report (is_strict_by options) are.0 are.1 it (report_of_findings kind options bytes findings it are has)) in
    (among, λ has. not_among message.EmptyName (link_order ++ fault_order) empty_name_others (among message.EmptyName has))

-- ---- without overrides

-- each of the messages is reported
abbrev pub AreReported : Bool → List Message → Type 0
AreReported strict [] = ⊤
AreReported strict (first ∷ order) = (is_reported (severity_of strict first) ≡ true) × AreReported strict order

reported_among : (strict : Bool) (order : List Message) (it : Message) → AreReported strict order → IsAmong it order
    → is_reported (severity_of strict it) ≡ true
reported_among strict [] it are among = absurd among
reported_among strict (first ∷ order) it are (inl same) = subst (λ (m : Message). is_reported (severity_of strict m) ≡ true) (sym same) are.0
reported_among strict (first ∷ order) it are (inr later) = reported_among strict order it are.1 later

tree_messages_reported : (strict : Bool) → AreReported strict (link_order ++ fault_order)
tree_messages_reported true =
    (refl, (refl, (refl, (refl, (refl, (refl, (refl, (refl, (refl, (refl, (refl, (refl, (refl, (refl, tt))))))))))))))
tree_messages_reported false =
    (refl, (refl, (refl, (refl, (refl, (refl, (refl, (refl, (refl, (refl, (refl, (refl, (refl, (refl, tt))))))))))))))

-- without overrides, a message has a finding if and only if it is in the set
pub findings_have_default_messages : (kind : Kind) (options : Options) (bytes : List ℕ) → HaveDefaultMessages kind options bytes
findings_have_default_messages kind options bytes findings messages default one two it =
    let strict = is_strict_by options in
    let both = findings_have_messages kind options bytes findings messages one two it in
    let reports : HasMessage messages it → IsTrue (is_reported_by options it) =
    (λ has. subst (λ (s : Severity). is_reported s ≡ true) (sym (default it)) (reported_among strict (link_order ++ fault_order) it
    (tree_messages_reported strict) (among_of_report strict two.0 two.1 it ((two.3 it).0 has)))) in
    (λ found. (both.0 found).0, λ has. both.1 (has, reports has))

-- Findings that are appended one after another.
use Rattle.std.proofs.Common.{◌≡◌, ◌∙◌, ◌<◌, ◌≤◌, ◌+◌, ◌++◌, ℕ, List, [], ◌∷◌, Option, Some, None, Result, Ok, Err, OnOk, ap, append_assoc, get_or, inl, inr}
use Rattle.std.proofs.Common.{length, refl, replicate, subst, sym, take}
use Rattle.std.proofs.lemmas.List.{map-append, take_all, take_more}
use Rattle.std.proofs.lemmas.List.Elements.{filter-append}
use Rattle.gixobj_fsck_messages.specs.Options.{is_reported_by}
use Rattle.gixobj_fsck_messages.specs.declared.finding.Finding.{Finding}
use Rattle.gixobj_fsck_messages.specs.declared.message.Message.{Message}
use Rattle.gixobj_fsck_messages.specs.declared.message.Message.TheVariants as message
use Rattle.gixobj_fsck_messages.specs.declared.options.Options.{Options}
use Rattle.gixobj_fsck_names.specs.DotFiles.{IsGitModulesOnNtfs}
use Rattle.gixobj_fsck_names.specs.DotGit.{IsCountAfterBackslashes}
use Rattle.gixobj_fsck_trees.specs.FirstOffsets.{FindsOffset}
use Rattle.gixobj_fsck_trees.proofs.TreeLoops.{entry_at, no_entry}
use Rattle.gixobj_fsck_trees.specs.RawEntries.{RawEntryView}
use Rattle.gixobj_fsck_trees.specs.RawViews.{raw_entry_view, raw_entry_views}
use Rattle.gixobj_fsck_trees.specs.declared.raw_entry.RawEntry.{RawEntry}
use Rattle.gixobj_fsck_tree_findings.specs.Findings.{AppendsFindings, ListsInOrder, finding_at, findings_at, reported}
use Rattle.gixobj_fsck_tree_findings.specs.TreeFindings.{AreEntryFindings, AreFindingsOfLinks, AreLinkFindings, IsLinkOffset, link_order}

pub reported_append : (options : Options) (a b : List Finding) → reported options (a ++ b) ≡ reported options a ++ reported options b
reported_append options a b = filter-append (λ (it : Finding). is_reported_by options it.message) a b

-- findings after those that were appended before
pub append_two : (options : Options) (first middle last a b : List Finding) → middle ≡ first ++ reported options a
    → last ≡ middle ++ reported options b → last ≡ first ++ reported options (a ++ b)
append_two options first middle last a b one two =
    two ∙ ap (λ (it : List Finding). it ++ reported options b) one ∙ append_assoc first (reported options a) (reported options b)
    ∙ ap (λ (it : List Finding). first ++ it) (sym (reported_append options a b))

-- nothing is appended
pub append_nothing : (before : List Finding) → before ≡ before ++ []
append_nothing [] = refl
append_nothing (it ∷ before) = ap (λ (rest : List Finding). it ∷ rest) (append_nothing before)

-- ---- in the order of messages

-- one more message, last
pub lists_snoc : (IsAt : Message → ℕ → Type 0) (order : List Message) (it : Message) (findings : List Finding) (found : Option ℕ)
    → ListsInOrder IsAt order findings → FindsOffset (IsAt it) found → ListsInOrder IsAt (order ++ it ∷ []) (findings ++ findings_at it found)
lists_snoc IsAt [] it findings None lists finds = rw lists (inl (finds, refl))
lists_snoc IsAt [] it findings (Some offset) lists finds = rw lists (inr (offset, [], refl, finds, refl))
lists_snoc IsAt (first ∷ order) it findings found (inl none) finds = inl (none.0, lists_snoc IsAt order it findings found none.1 finds)
lists_snoc IsAt (first ∷ order) it findings found (inr some) finds =
    inr (
      some.0,
      some.1 ++ findings_at it found,
      ap (λ (all : List Finding). all ++ findings_at it found) some.2,
      some.3,
      lists_snoc IsAt order it some.1 found some.4 finds,
    )

-- no message yet
pub appends_start : (options : Options) (IsAt : Message → ℕ → Type 0) (order : List Message) (before : List Finding)
    → AppendsFindings options (ListsInOrder IsAt (take 0 order)) before before
appends_start options IsAt order before = ([], refl, append_nothing before)

-- one more message of an order
pub appends_message : (options : Options) (IsAt : Message → ℕ → Type 0) (order : List Message) (at : ℕ) (past : Message) (found : Option ℕ)
    (first before after : List Finding) → at < length order
    → AppendsFindings options (ListsInOrder IsAt (take at order)) first before → FindsOffset (IsAt (get_or order at past)) found
    → after ≡ before ++ reported options (findings_at (get_or order at past) found)
    → AppendsFindings options (ListsInOrder IsAt (take (at + 1) order)) first after
appends_message options IsAt order at past found first before after within appends finds more =
    let it : Message = get_or order at past in
    let lists : ListsInOrder IsAt (take (at + 1) order) (appends.0 ++ findings_at it found) =
    (rw (take_more order at past within) (lists_snoc IsAt (take at order) it appends.0 found appends.1 finds)) in
    (appends.0 ++ findings_at it found, lists, append_two options first before after appends.0 (findings_at it found) appends.2 more)

-- all messages of an order
pub appends_all : (options : Options) (IsAt : Message → ℕ → Type 0) (order : List Message) (at : ℕ) (first after : List Finding)
    → length order ≤ at → AppendsFindings options (ListsInOrder IsAt (take at order)) first after
    → AppendsFindings options (ListsInOrder IsAt order) first after
appends_all options IsAt order at first after past appends =
    let Taken : List Message → Type 0 = λ some. AppendsFindings options (ListsInOrder IsAt some) first after in
    subst Taken (take_all at order past) appends

-- ---- in the order of entries

-- one more entry, last
pub links_snoc : (entries : List RawEntryView) (e : RawEntryView) (findings more : List Finding) → AreFindingsOfLinks entries findings
    → AreEntryFindings e more → AreFindingsOfLinks (entries ++ e ∷ []) (findings ++ more)
links_snoc [] e findings more links last = rw links (more, [], last, refl, append_nothing more)
links_snoc (first ∷ entries) e findings more links last = (
  links.0,
  links.1 ++ more,
  links.2,
  links_snoc entries e links.1 more links.3 last,
  ap (λ (all : List Finding). all ++ more) links.4 ∙ append_assoc links.0 links.1 more,
)

-- one more entry
pub appends_entry : (options : Options) (entries : List RawEntry) (at : ℕ) (first before after : List Finding) → at < length entries
    → AppendsFindings options (AreFindingsOfLinks (raw_entry_views (take at entries))) first before
    → AppendsFindings options (AreEntryFindings (raw_entry_view (entry_at entries at))) before after
    → AppendsFindings options (AreFindingsOfLinks (raw_entry_views (take (at + 1) entries))) first after
appends_entry options entries at first before after within appends more =
    let views : raw_entry_views (take (at + 1) entries) ≡ raw_entry_views (take at entries) ++ raw_entry_view (entry_at entries at) ∷ [] =
    (ap raw_entry_views (take_more entries at no_entry within)
    ∙ map-append raw_entry_view (take at entries) (entry_at entries at ∷ [])) in
    let links : AreFindingsOfLinks (raw_entry_views (take (at + 1) entries)) (appends.0 ++ more.0) =
    (rw views (links_snoc (raw_entry_views (take at entries)) (raw_entry_view (entry_at entries at)) appends.0 more.0 appends.1 more.1)) in
    (appends.0 ++ more.0, links, append_two options first before after appends.0 more.0 appends.2 more.2)

-- all entries
pub appends_entries : (options : Options) (entries : List RawEntry) (at : ℕ) (first after : List Finding) → length entries ≤ at
    → AppendsFindings options (AreFindingsOfLinks (raw_entry_views (take at entries))) first after
    → AppendsFindings options (AreFindingsOfLinks (raw_entry_views entries)) first after
appends_entries options entries at first after past appends =
    let Taken : List RawEntry → Type 0 = λ some. AppendsFindings options (AreFindingsOfLinks (raw_entry_views some)) first after in
    subst Taken (take_all at entries past) appends

-- the findings about a link
pub appends_link : (options : Options) (e : RawEntryView) (count : ℕ) (first middle last : List Finding)
    → AppendsFindings options (ListsInOrder (IsLinkOffset e) link_order) first middle → IsCountAfterBackslashes IsGitModulesOnNtfs e.name count
    → last ≡ middle ++ reported options (replicate count (finding_at message.GitmodulesSymlink e.offset))
    → AppendsFindings options (AreLinkFindings e) first last
appends_link options e count first middle last named counted more =
    let again : List Finding = replicate count (finding_at message.GitmodulesSymlink e.offset) in
    (named.0 ++ again, (named.0, count, named.1, counted, refl), append_two options first middle last named.0 again named.2 more)

-- a fact of an accepted call, by another
pub on_ok : {T E : Type 0} (result : Result T E) (P Q : Type 0) → (P → Q) → OnOk result P → OnOk result Q
on_ok (Ok it) P Q implies holds = implies holds
on_ok (Err it) P Q implies holds = tt

-- The findings about a tree are unique.
use Rattle.std.proofs.Common.{◌≡◌, ◌∙◌, ◌⊎◌, ◌++◌, ◌+◌, Bool, ℕ, List, [], ◌∷◌, ap, arith, inl, inr, refl, replicate, subst, sym}
use Rattle.gixobj_fsck_messages.specs.Options.{is_strict_by}
use Rattle.gixobj_fsck_messages.specs.declared.finding.Finding.{Finding}
use Rattle.gixobj_fsck_messages.specs.declared.message.Message.{Message}
use Rattle.gixobj_fsck_messages.specs.declared.message.Message.TheVariants as message
use Rattle.gixobj_fsck_messages.specs.declared.options.Options.{Options}
use Rattle.gixobj_fsck_names.specs.DotGit.{IsCountAfterBackslashes}
use Rattle.gixobj_hash.specs.Runs.{Ending}
use Rattle.gixobj_hash.specs.declared.hash.kind.Kind.{Kind}
use Rattle.gixobj_fsck_trees.proofs.UniqueReads.{tree_reads_uniquely}
use Rattle.gixobj_fsck_trees.specs.EntryMessages.{HasBadMode, HasFault}
use Rattle.gixobj_fsck_trees.specs.FirstOffsets.{IsFirstOffset, IsNoName, IsRepeatOffset, IsStepOffset}
use Rattle.gixobj_fsck_trees.specs.RawEntries.{RawEntryView}
use Rattle.gixobj_fsck_trees.specs.TreeMessages.{compared}
use Rattle.gixobj_fsck_tree_findings.specs.Findings.{ListsInOrder, finding_at, reported}
use Rattle.gixobj_fsck_tree_findings.specs.Laws.{HaveUniqueFindings}
use Rattle.gixobj_fsck_tree_findings.specs.TreeFindings.{AreEntryFindings, AreFindingsOfLinks, AreLinkFindings, IsFaultOffset, IsLinkOffset, fault_order}
use Rattle.gixobj_fsck_tree_findings.specs.TreeFindings.{link_order}

-- two offsets with the property are equal
abbrev pub IsUniqueOffset : (ℕ → Type 0) → Type 0
IsUniqueOffset IsAt = (a b : ℕ) → IsAt a → IsAt b → a ≡ b

first_unique : (P : RawEntryView → Type 0) (entries : List RawEntryView) → IsUniqueOffset (IsFirstOffset P entries)
first_unique P [] a b one two = absurd one
first_unique P (e ∷ entries) a b (inl one) (inl two) = one.1 ∙ sym two.1
first_unique P (e ∷ entries) a b (inl one) (inr two) = absurd (two.0 one.0)
first_unique P (e ∷ entries) a b (inr one) (inl two) = absurd (one.0 two.0)
first_unique P (e ∷ entries) a b (inr one) (inr two) = first_unique P entries a b one.1 two.1

step_unique : (entries : List RawEntryView) → IsUniqueOffset (IsStepOffset entries)
step_unique [] a b one two = absurd one
step_unique (e ∷ []) a b one two = absurd one
step_unique (e ∷ next ∷ entries) a b (inl one) (inl two) = one.1 ∙ sym two.1
step_unique (e ∷ next ∷ entries) a b (inl one) (inr two) = absurd (two.0 one.0)
step_unique (e ∷ next ∷ entries) a b (inr one) (inl two) = absurd (one.0 two.0)
step_unique (e ∷ next ∷ entries) a b (inr one) (inr two) = step_unique (next ∷ entries) a b one.1 two.1

repeat_unique : (Seen : List ℕ → Type 0) (entries : List RawEntryView) → IsUniqueOffset (IsRepeatOffset Seen entries)
repeat_unique Seen [] a b one two = absurd one
repeat_unique Seen (e ∷ entries) a b (inl one) (inl two) = one.1 ∙ sym two.1
repeat_unique Seen (e ∷ entries) a b (inl one) (inr two) = absurd (two.0 one.0)
repeat_unique Seen (e ∷ entries) a b (inr one) (inl two) = absurd (one.0 two.0)
repeat_unique Seen (e ∷ entries) a b (inr one) (inr two) =
    repeat_unique (λ name. (name ≡ e.name) ⊎ Seen name) entries a b one.1 two.1

fault_unique : (strict : Bool) (entries : List RawEntryView) (ending : Ending) (it : Message)
    → IsUniqueOffset (IsFaultOffset strict entries ending it)
fault_unique strict entries ending message.BadTree a b one two = one.1 ∙ sym two.1
fault_unique strict entries ending message.BadFilemode a b one two = first_unique (HasBadMode strict) (compared entries ending) a b one two
fault_unique strict entries ending message.DuplicateEntries a b one two = repeat_unique IsNoName (compared entries ending) a b one two
fault_unique strict entries ending message.TreeNotSorted a b one two = step_unique (compared entries ending) a b one two
fault_unique strict entries ending it a b one two = first_unique (λ e. HasFault e it) entries a b one two

count_unique : (P : List ℕ → Type 0) (name : List ℕ) (a b : ℕ) → IsCountAfterBackslashes P name a → IsCountAfterBackslashes P name b → a ≡ b
count_unique P [] a b one two = one ∙ sym two
count_unique P (byte ∷ name) a b (inl one) (inl two) =
    let more : one.2.0 ≡ two.2.0 = count_unique P name one.2.0 two.2.0 one.2.2 two.2.2 in
    one.2.1 ∙ ap (λ (n : ℕ). n + 1) more ∙ sym two.2.1
count_unique P (byte ∷ name) a b (inl one) (inr two) = absurd (two.0 (one.0, one.1))
count_unique P (byte ∷ name) a b (inr one) (inl two) = absurd (one.0 (two.0, two.1))
count_unique P (byte ∷ name) a b (inr one) (inr two) = count_unique P name a b one.1 two.1

same_cons : (it : Message) (a b : ℕ) (x y : List Finding) → a ≡ b → x ≡ y → finding_at it a ∷ x ≡ finding_at it b ∷ y
same_cons it a b x y offset rest = rw (offset, rest) refl

-- one list has the findings of these messages
lists_unique : (IsAt : Message → ℕ → Type 0) → ((it : Message) → IsUniqueOffset (IsAt it)) → (order : List Message) (x y : List Finding)
    → ListsInOrder IsAt order x → ListsInOrder IsAt order y → x ≡ y
lists_unique IsAt unique [] x y one two = one ∙ sym two
lists_unique IsAt unique (it ∷ order) x y (inl one) (inl two) = lists_unique IsAt unique order x y one.1 two.1
lists_unique IsAt unique (it ∷ order) x y (inl one) (inr two) = absurd (one.0 two.0 two.3)
lists_unique IsAt unique (it ∷ order) x y (inr one) (inl two) = absurd (two.0 one.0 one.3)
lists_unique IsAt unique (it ∷ order) x y (inr one) (inr two) =
    one.2 ∙ same_cons it one.0 two.0 one.1 two.1 (unique it one.0 two.0 one.3 two.3) (lists_unique IsAt unique order one.1 two.1 one.4 two.4)
    ∙ sym two.2

same_link : (again : Finding) (a b : List Finding) (m n : ℕ) → a ≡ b → m ≡ n → a ++ replicate m again ≡ b ++ replicate n again
same_link again a b m n named count = rw (named, count) refl

link_unique : (e : RawEntryView) (x y : List Finding) → AreLinkFindings e x → AreLinkFindings e y → x ≡ y
link_unique e x y one two =
    one.4 ∙ same_link (finding_at message.GitmodulesSymlink e.offset) one.0 two.0 one.1 two.1
    (lists_unique (IsLinkOffset e) (λ it a b here there. here.1 ∙ sym there.1) link_order one.0 two.0 one.2 two.2)
    (count_unique _ e.name one.1 two.1 one.3 two.3) ∙ sym two.4

entry_unique : (e : RawEntryView) (x y : List Finding) → AreEntryFindings e x → AreEntryFindings e y → x ≡ y
entry_unique e x y (inl one) (inl two) = link_unique e x y one.1 two.1
entry_unique e x y (inl one) (inr two) = absurd (two.0 one.0)
entry_unique e x y (inr one) (inl two) = absurd (one.0 two.0)
entry_unique e x y (inr one) (inr two) = one.1 ∙ sym two.1

same_append : (a b x y : List Finding) → a ≡ b → x ≡ y → a ++ x ≡ b ++ y
same_append a b x y first second = rw (first, second) refl

links_unique : (entries : List RawEntryView) (x y : List Finding) → AreFindingsOfLinks entries x → AreFindingsOfLinks entries y → x ≡ y
links_unique [] x y one two = one ∙ sym two
links_unique (e ∷ entries) x y one two =
    one.4 ∙ same_append one.0 two.0 one.1 two.1 (entry_unique e one.0 two.0 one.2 two.2) (links_unique entries one.1 two.1 one.3 two.3) ∙ sym two.4

-- the findings about a tree
pub findings_unique : (kind : Kind) (options : Options) (bytes : List ℕ) → HaveUniqueFindings kind options bytes
findings_unique kind options bytes first second one two =
    let same = tree_reads_uniquely kind bytes one.0 two.0 one.1 two.1 one.4 two.4 in
    let strict = is_strict_by options in
    let links = links_unique two.0 one.2 two.2 (subst (λ (entries : List RawEntryView). AreFindingsOfLinks entries one.2) same.0 one.5) two.5 in
    let lists : ListsInOrder (IsFaultOffset strict two.0 two.1) fault_order one.3 =
    subst (λ (ending : Ending). ListsInOrder (IsFaultOffset strict two.0 ending) fault_order one.3) same.1
    (subst (λ (entries : List RawEntryView). ListsInOrder (IsFaultOffset strict entries one.1) fault_order one.3) same.0 one.6) in
    let faults = lists_unique (IsFaultOffset strict two.0 two.1) (fault_unique strict two.0 two.1) fault_order one.3 two.3 lists two.6 in
    one.7 ∙ ap (λ (all : List Finding). reported options all) (same_append one.2 two.2 one.3 two.3 links faults) ∙ sym two.7

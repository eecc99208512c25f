-- Which messages have findings.
use Rattle.std.proofs.Common.{◌≡◌, ◌≢◌, ◌∙◌, ◌⊎◌, ◌↔◌, ◌++◌, ◌+◌, Bool, true, false, cond, ℕ, zero, suc, List, [], ◌∷◌, IsTrue, ap, arith, inl, inr, refl}
use Rattle.std.proofs.Common.{replicate, subst, sym}
use Rattle.gixobj_fsck_messages.specs.Options.{is_reported_by}
use Rattle.gixobj_fsck_messages.specs.declared.finding.Finding.{Finding}
use Rattle.gixobj_fsck_messages.specs.declared.message.Message.{Message}
use Rattle.gixobj_fsck_messages.specs.declared.options.Options.{Options}
use Rattle.gixobj_fsck_names.specs.DotGit.{HasAfterBackslash, IsCountAfterBackslashes}
use Rattle.gixobj_fsck_names.specs.Letters.{backslash}
use Rattle.gixobj_fsck_tree_findings.specs.Findings.{HasFinding, ListsInOrder, finding_at, reported}
use Rattle.gixobj_fsck_tree_findings.specs.Laws.{IsAmong}

-- ---- lists that are joined or filtered

pub has_of_append : (it : Message) (a b : List Finding) → HasFinding it (a ++ b) → HasFinding it a ⊎ HasFinding it b
has_of_append it [] b has = inr has
has_of_append it (first ∷ a) b (inl here) = inl (inl here)
has_of_append it (first ∷ a) b (inr later) = elim (has_of_append it a b later) [ inl one ↦ inl (inr one) | inr other ↦ inr other ]

pub append_has : (it : Message) (a b : List Finding) → HasFinding it a ⊎ HasFinding it b → HasFinding it (a ++ b)
append_has it [] b (inl has) = absurd has
append_has it [] b (inr has) = has
append_has it (first ∷ a) b (inl (inl here)) = inl here
append_has it (first ∷ a) b (inl (inr later)) = inr (append_has it a b (inl later))
append_has it (first ∷ a) b (inr other) = inr (append_has it a b (inr other))

no_report : (options : Options) (it : Message) (first : Finding) → first.message ≡ it → is_reported_by options first.message ≡ false
    → IsTrue (is_reported_by options it) → ⊥
no_report options it first same is reports =
    let kept : is_reported_by options first.message ≡ true = subst (λ (m : Message). is_reported_by options m ≡ true) (sym same) reports in
    cc (is, kept)

has_kept : (options : Options) (it : Message) (first : Finding) (findings rest : List Finding) (keep : Bool)
    → is_reported_by options first.message ≡ keep → HasFinding it rest ↔ (HasFinding it findings × IsTrue (is_reported_by options it))
    → HasFinding it (cond keep (first ∷ rest) rest) ↔ (HasFinding it (first ∷ findings) × IsTrue (is_reported_by options it))
has_kept options it first findings rest true is later = (
  λ has. elim has [
    | inl here ↦ (inl here, subst (λ (m : Message). is_reported_by options m ≡ true) here is)
    | inr there ↦ let both = later.0 there in (inr both.0, both.1)
  ],
  λ both. elim both.0 [ inl here ↦ inl here | inr there ↦ inr (later.1 (there, both.1)) ],
)
has_kept options it first findings rest false is later = (
  λ has. let both = later.0 has in (inr both.0, both.1),
  λ both. elim both.0 [
    | inl here ↦ absurd (no_report options it first here is both.1)
    | inr there ↦ later.1 (there, both.1)
  ],
)

-- a finding with the message is reported if and only if there is one, and the options report it
pub has_of_reported : (options : Options) (it : Message) (findings : List Finding)
    → HasFinding it (reported options findings) ↔ (HasFinding it findings × IsTrue (is_reported_by options it))
has_of_reported options it [] = (λ has. absurd has, λ both. absurd both.0)
has_of_reported options it (first ∷ findings) =
    has_kept options it first findings (reported options findings) (is_reported_by options first.message) refl (has_of_reported options it findings)

-- ---- lists of messages in order

-- a finding is of a message of the order, which has an offset
pub offset_of_has : (IsAt : Message → ℕ → Type 0) (order : List Message) (findings : List Finding) (it : Message)
    → ListsInOrder IsAt order findings → HasFinding it findings → IsAmong it order × ((offset : ℕ) × IsAt it offset)
offset_of_has IsAt [] findings it lists has = absurd (subst (λ (all : List Finding). HasFinding it all) lists has)
offset_of_has IsAt (first ∷ order) findings it (inl none) has =
    let rest = offset_of_has IsAt order findings it none.1 has in (inr rest.0, rest.1)
offset_of_has IsAt (first ∷ order) findings it (inr some) has =
    elim (subst (λ (all : List Finding). HasFinding it all) some.2 has) [
      | inl here ↦ (inl (sym here), (some.0, subst (λ (m : Message). IsAt m some.0) here some.3))
      | inr later ↦ let rest = offset_of_has IsAt order some.1 it some.4 later in (inr rest.0, rest.1)
    ]

-- a message of the order that may not lack an offset has a finding
pub has_of_offset : (IsAt : Message → ℕ → Type 0) (order : List Message) (findings : List Finding) (it : Message)
    → ListsInOrder IsAt order findings → IsAmong it order → (((offset : ℕ) → ¬ IsAt it offset) → ⊥) → HasFinding it findings
has_of_offset IsAt [] findings it lists among some = absurd among
has_of_offset IsAt (first ∷ order) findings it (inl none) (inl same) some =
    absurd (some (subst (λ (m : Message). (offset : ℕ) → ¬ IsAt m offset) (sym same) none.0))
has_of_offset IsAt (first ∷ order) findings it (inl none) (inr later) some = has_of_offset IsAt order findings it none.1 later some
has_of_offset IsAt (first ∷ order) findings it (inr found) (inl same) some =
    subst (λ (all : List Finding). HasFinding it all) (sym found.2) (inl (sym same))
has_of_offset IsAt (first ∷ order) findings it (inr found) (inr later) some =
    subst (λ (all : List Finding). HasFinding it all) (sym found.2) (inr (has_of_offset IsAt order found.1 it found.4 later some))

-- ---- findings that are repeated

pub has_of_replicate : (it : Message) (again : Finding) (count : ℕ) → HasFinding it (replicate count again) → (again.message ≡ it) × (count ≢ 0)
has_of_replicate it again zero has = absurd has
has_of_replicate it again (suc count) (inl here) = (here, λ none. cc none)
has_of_replicate it again (suc count) (inr later) = ((has_of_replicate it again count later).0, λ none. cc none)

pub replicate_has : (it : Message) (again : Finding) (count : ℕ) → again.message ≡ it → count ≢ 0 → HasFinding it (replicate count again)
replicate_has it again zero same some = absurd (some refl)
replicate_has it again (suc count) same some = inl same

pub after_backslash_of_count : (P : List ℕ → Type 0) (name : List ℕ) (count : ℕ) → IsCountAfterBackslashes P name count → count ≢ 0
    → HasAfterBackslash P name
after_backslash_of_count P [] count counted some = absurd (some counted)
after_backslash_of_count P (byte ∷ name) count (inl hit) some =
    ([], name, ap (λ (first : ℕ). first ∷ name) hit.0, hit.1)
after_backslash_of_count P (byte ∷ name) count (inr other) some =
    let later = after_backslash_of_count P name count other.1 some in
    (byte ∷ later.0, later.1, ap (λ (rest : List ℕ). byte ∷ rest) later.2, later.3)

not_zero : (n count : ℕ) → count ≡ n + 1 → count ≢ 0
not_zero n count is none = omega arith

pub count_of_after_backslash : (P : List ℕ → Type 0) (name : List ℕ) (count : ℕ) → IsCountAfterBackslashes P name count
    → HasAfterBackslash P name → count ≢ 0
count_of_after_backslash P [] count counted ([], after, same, has) = absurd (cc same)
count_of_after_backslash P [] count counted (first ∷ before, after, same, has) = absurd (cc same)
count_of_after_backslash P (byte ∷ name) count (inl hit) has = not_zero hit.2.0 count hit.2.1
count_of_after_backslash P (byte ∷ name) count (inr other) ([], after, same, has) =
    let is : byte ≡ backslash = cc same in
    let rest : name ≡ after = cc same in
    absurd (other.0 (is, subst P (sym rest) has))
count_of_after_backslash P (byte ∷ name) count (inr other) (first ∷ before, after, same, has) =
    let rest : name ≡ before ++ (backslash ∷ after) = cc same in
    count_of_after_backslash P name count other.1 (before, after, rest, has)

-- An entry has a fault if and only if a first one has it.
use Rattle.std.proofs.Common.{◌≡◌, ◌⊎◌, ◌↔◌, ℕ, List, [], ◌∷◌, Option, Some, None, IsTrue, inl, inr, refl}
use Rattle.std.specs.Option.{is_some}
use Rattle.gixobj_fsck_trees.specs.FirstOffsets.{FindsOffset, IsFirstOffset, IsNoName, IsRepeatOffset, IsStepOffset}
use Rattle.gixobj_fsck_trees.specs.RawEntries.{RawEntryView}
use Rattle.gixobj_fsck_trees.specs.TreeMessages.{HasEntry, HasNameTwice, HasStepDown}

-- an offset was found if and only if a fact holds that one shows, and that the lack of one excludes
pub found_iff : (IsAt : ℕ → Type 0) (Holds : Type 0) (found : Option ℕ) → FindsOffset IsAt found
    → ((offset : ℕ) → IsAt offset → Holds) → (((offset : ℕ) → ¬ IsAt offset) → ¬ Holds) → IsTrue (is_some found) ↔ Holds
found_iff IsAt Holds None finds shows excludes =
    (λ (answer : IsTrue (is_some {T = ℕ} None)). cc answer, λ (holds : Holds). absurd (excludes finds holds))
found_iff IsAt Holds (Some offset) finds shows excludes =
    (λ (answer : IsTrue (is_some (Some offset))). shows offset finds, λ (holds : Holds). refl)

-- an entry has another property
pub has_entry_of : (P Q : RawEntryView → Type 0) → ((e : RawEntryView) → P e → Q e) → (entries : List RawEntryView) → HasEntry P entries
    → HasEntry Q entries
has_entry_of P Q implies [] has = has
has_entry_of P Q implies (e ∷ entries) (inl here) = inl (implies e here)
has_entry_of P Q implies (e ∷ entries) (inr later) = inr (has_entry_of P Q implies entries later)

-- an entry has one of two properties
pub has_entry_split : (P Q : RawEntryView → Type 0) (entries : List RawEntryView) → HasEntry (λ e. P e ⊎ Q e) entries
    → HasEntry P entries ⊎ HasEntry Q entries
has_entry_split P Q [] has = absurd has
has_entry_split P Q (e ∷ entries) (inl (inl here)) = inl (inl here)
has_entry_split P Q (e ∷ entries) (inl (inr here)) = inr (inl here)
has_entry_split P Q (e ∷ entries) (inr later) =
    elim (has_entry_split P Q entries later) [ inl one ↦ inl (inr one) | inr other ↦ inr (inr other) ]

-- ---- entries with a property

pub entry_of_first : (P : RawEntryView → Type 0) (entries : List RawEntryView) (offset : ℕ) → IsFirstOffset P entries offset → HasEntry P entries
entry_of_first P [] offset first = first
entry_of_first P (e ∷ entries) offset (inl here) = inl here.0
entry_of_first P (e ∷ entries) offset (inr later) = inr (entry_of_first P entries offset later.1)

pub no_entry_of_no_first : (P : RawEntryView → Type 0) (entries : List RawEntryView) → ((offset : ℕ) → ¬ IsFirstOffset P entries offset)
    → ¬ HasEntry P entries
no_entry_of_no_first P [] none has = has
no_entry_of_no_first P (e ∷ entries) none (inl here) = none e.offset (inl (here, refl))
no_entry_of_no_first P (e ∷ entries) none (inr later) =
    no_entry_of_no_first P entries (λ offset first. none offset (inr (λ (here : P e). none e.offset (inl (here, refl)), first))) later

-- ---- neighbours that aren't in order

pub step_of_first : (entries : List RawEntryView) (offset : ℕ) → IsStepOffset entries offset → HasStepDown entries
step_of_first [] offset first = first
step_of_first (e ∷ []) offset first = first
step_of_first (e ∷ next ∷ entries) offset (inl here) = inl here.0
step_of_first (e ∷ next ∷ entries) offset (inr later) = inr (step_of_first (next ∷ entries) offset later.1)

pub no_step_of_no_first : (entries : List RawEntryView) → ((offset : ℕ) → ¬ IsStepOffset entries offset) → ¬ HasStepDown entries
no_step_of_no_first [] none has = has
no_step_of_no_first (e ∷ []) none has = has
no_step_of_no_first (e ∷ next ∷ entries) none (inl here) = none next.offset (inl (here, refl))
no_step_of_no_first (e ∷ next ∷ entries) none (inr later) =
    no_step_of_no_first (next ∷ entries) (λ offset first. none offset (inr (λ here. none next.offset (inl (here, refl)), first))) later

-- ---- names that two entries have

-- the name of this entry, or a name that is seen
abbrev pub IsNameOrSeen : (List ℕ → Type 0) → RawEntryView → List ℕ → Type 0
IsNameOrSeen Seen e name = (name ≡ e.name) ⊎ Seen name

-- two entries have one name, or the name of one is seen
abbrev pub IsTwiceOrSeen : (List ℕ → Type 0) → List RawEntryView → Type 0
IsTwiceOrSeen Seen entries = HasNameTwice entries ⊎ HasEntry (λ e. Seen e.name) entries

twice_or_seen_cons : (Seen : List ℕ → Type 0) (e : RawEntryView) (entries : List RawEntryView) → IsTwiceOrSeen (IsNameOrSeen Seen e) entries
    → IsTwiceOrSeen Seen (e ∷ entries)
twice_or_seen_cons Seen e entries (inl twice) = inl (inr twice)
twice_or_seen_cons Seen e entries (inr has) = elim (has_entry_split (λ other. other.name ≡ e.name) (λ other. Seen other.name) entries has) [
  | inl named ↦ inl (inl named)
  | inr seen ↦ inr (inr seen)
]

pub twice_of_repeat : (Seen : List ℕ → Type 0) (entries : List RawEntryView) (offset : ℕ) → IsRepeatOffset Seen entries offset
    → IsTwiceOrSeen Seen entries
twice_of_repeat Seen [] offset repeat = absurd repeat
twice_of_repeat Seen (e ∷ entries) offset (inl here) = inr (inl here.0)
twice_of_repeat Seen (e ∷ entries) offset (inr later) =
    twice_or_seen_cons Seen e entries (twice_of_repeat (IsNameOrSeen Seen e) entries offset later.1)

no_twice_cons : (Seen : List ℕ → Type 0) (e : RawEntryView) (entries : List RawEntryView) → (¬ Seen e.name)
    → (¬ IsTwiceOrSeen (IsNameOrSeen Seen e) entries) → ¬ IsTwiceOrSeen Seen (e ∷ entries)
no_twice_cons Seen e entries new none (inl (inl named)) =
    none (inr (has_entry_of (λ other. other.name ≡ e.name) (λ other. IsNameOrSeen Seen e other.name) (λ other same. inl same) entries named))
no_twice_cons Seen e entries new none (inl (inr twice)) = none (inl twice)
no_twice_cons Seen e entries new none (inr (inl seen)) = new seen
no_twice_cons Seen e entries new none (inr (inr later)) =
    none (inr (has_entry_of (λ other. Seen other.name) (λ other. IsNameOrSeen Seen e other.name) (λ other seen. inr seen) entries later))

pub no_twice_of_no_repeat : (Seen : List ℕ → Type 0) (entries : List RawEntryView) → ((offset : ℕ) → ¬ IsRepeatOffset Seen entries offset)
    → ¬ IsTwiceOrSeen Seen entries
no_twice_of_no_repeat Seen [] none (inl twice) = twice
no_twice_of_no_repeat Seen [] none (inr seen) = seen
no_twice_of_no_repeat Seen (e ∷ entries) none has =
    let new : ¬ Seen e.name = λ seen. none e.offset (inl (seen, refl)) in
    no_twice_cons Seen e entries new
    (no_twice_of_no_repeat (IsNameOrSeen Seen e) entries (λ offset repeat. none offset (inr (new, repeat)))) has

none_named : (entries : List RawEntryView) → ¬ HasEntry (λ e. IsNoName e.name) entries
none_named [] has = has
none_named (e ∷ entries) (inl here) = here
none_named (e ∷ entries) (inr later) = none_named entries later

-- two entries of a tree have one name if there is a first repeat
pub name_twice_of_repeat : (entries : List RawEntryView) (offset : ℕ) → IsRepeatOffset IsNoName entries offset → HasNameTwice entries
name_twice_of_repeat entries offset repeat = elim (twice_of_repeat IsNoName entries offset repeat) [
  | inl twice ↦ twice
  | inr named ↦ absurd (none_named entries named)
]

-- no two entries of a tree have one name if there is no first repeat
pub no_name_twice : (entries : List RawEntryView) → ((offset : ℕ) → ¬ IsRepeatOffset IsNoName entries offset) → ¬ HasNameTwice entries
no_name_twice entries none twice = no_twice_of_no_repeat IsNoName entries none (inl twice)

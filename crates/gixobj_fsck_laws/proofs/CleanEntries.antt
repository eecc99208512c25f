-- Entries of which git has no message: their modes, names and ids.
use Rattle.std.proofs.Common.{◌≡◌, ◌≢◌, ◌⊎◌, ◌<◌, ◌∙◌, ◌++◌, ◌∷◌, ℕ, Bool, true, false, List, [], All, Contains, arith, inl, inr, length, refl, subst, sym}
use Rattle.std.specs.List.{AllByRecursion}
use Rattle.std.proofs.lemmas.Bool.{cases_eq}
use Rattle.std.proofs.lemmas.List.{get_or_default}
use mathlib.Core.Bool.{true≢false}
use Rattle.gixobj_fsck_messages.specs.declared.message.Message.{Message}
use Rattle.gixobj_fsck_messages.specs.declared.message.Message.TheVariants as message
use Rattle.gixobj_hash.specs.ByteStrings.{IsByteFree}
use Rattle.gixobj_hash.specs.Hash.{hash_len, id_bytes, id_from, id_kind}
use Rattle.gixobj_hash.specs.declared.hash.kind.Kind.{Kind}
use Rattle.gixobj_hash.specs.declared.hash.kind.Kind.TheVariants as hash
use Rattle.gixobj_tree_entries.specs.Entries.{EntryView, entry_of}
use Rattle.gixobj_tree_entries.specs.TreeDecoding.{IsIdOf}
use Rattle.gixobj_tree.specs.WellFormed.{IsEntryName}
use Rattle.gixobj_fsck_trees.specs.EntryMessages.{HasBadMode, HasEntryMessage}
use Rattle.gixobj_fsck_trees.specs.RawEntries.{RawEntryView}
use Rattle.gixobj_fsck_trees.specs.TreeMessages.{HasEntry}
use Rattle.gixobj_fsck_laws.specs.CleanTrees.{IsGitMode, IsSafeEntry}

-- an entry without a message, whose name has a byte and whose id has the length of the kind
pub record IsCleanEntry (kind : Kind) (strict : Bool) (e : RawEntryView) : Type 0 where
  pub messages : (it : Message) → ¬ HasEntryMessage e it
  pub mode : ¬ HasBadMode strict e
  pub filled : e.name ≢ []
  pub len : length e.id ≡ hash_len kind

-- the entry as the decoder of trees sees it
abbrev pub decoded_view : Kind → RawEntryView → EntryView
decoded_view kind e = entry_of e.mode e.name (id_from kind e.id)

pub id_from_bytes : (kind : Kind) (bytes : List ℕ) → id_bytes (id_from kind bytes) ≡ bytes
id_from_bytes hash.Sha1 bytes = refl
id_from_bytes hash.Sha256 bytes = refl

id_from_kind : (kind : Kind) (bytes : List ℕ) → id_kind (id_from kind bytes) ≡ kind
id_from_kind hash.Sha1 bytes = refl
id_from_kind hash.Sha256 bytes = refl

pub is_id_of_bytes : (kind : Kind) (bytes : List ℕ) → length bytes ≡ hash_len kind → IsIdOf kind (id_from kind bytes)
is_id_of_bytes kind bytes len = (id_from_kind kind bytes, rw (id_from_bytes kind bytes) len)

-- ---- modes

or_decidable : {A B : Type 0} → A ⊎ (¬ A) → B ⊎ (¬ B) → (A ⊎ B) ⊎ (¬ (A ⊎ B))
or_decidable (inl a) b = inl (inl a)
or_decidable (inr no_a) (inl b) = inl (inr b)
or_decidable {A} {B} (inr no_a) (inr no_b) = inr (λ (it : A ⊎ B). elim it [ inl a ↦ no_a a | inr b ↦ no_b b ])

not_strict : (strict : Bool) → (strict ≡ false) ⊎ (¬ (strict ≡ false))
not_strict false = inl refl
not_strict true = inr true≢false

group_writable : (strict : Bool) (mode : ℕ)
    → ((strict ≡ false) × (mode ≡ 33204)) ⊎ (¬ ((strict ≡ false) × (mode ≡ 33204)))
group_writable strict mode = elim (not_strict strict) [
  | inl lax ↦ elim (cases_eq mode 33204) [
    | inl is ↦ inl (lax, is)
    | inr other ↦ inr (λ (it : (strict ≡ false) × (mode ≡ 33204)). other it.1)
  ]
  | inr other ↦ inr (λ (it : (strict ≡ false) × (mode ≡ 33204)). other it.0)
]

git_mode_decidable : (strict : Bool) (mode : ℕ) → IsGitMode strict mode ⊎ (¬ IsGitMode strict mode)
git_mode_decidable strict mode = or_decidable (cases_eq mode 33188) (or_decidable (cases_eq mode 33261)
    (or_decidable (cases_eq mode 40960) (or_decidable (cases_eq mode 16384)
    (or_decidable (cases_eq mode 57344) (group_writable strict mode)))))

pub git_mode_of_clean : (strict : Bool) (e : RawEntryView) → ¬ HasBadMode strict e → IsGitMode strict e.mode
git_mode_of_clean strict e good = elim (git_mode_decidable strict e.mode) [ inl is ↦ is | inr other ↦ absurd (good other) ]

-- ---- names and ids

byte_free_of_not_contains : (byte : ℕ) (name : List ℕ) → ¬ Contains name byte → IsByteFree byte name
byte_free_of_not_contains byte name lacks = λ k d low same. lacks (k, low, get_or_default name k byte d low ∙ same)

-- a name without a message has no slash
pub slash_free_of_clean : (e : RawEntryView) → ((it : Message) → ¬ HasEntryMessage e it) → IsByteFree 47 e.name
slash_free_of_clean e none =
    byte_free_of_not_contains 47 e.name (λ (has : Contains e.name 47). none message.FullPathname (inr (inl (inl (refl, has)))))

pub entry_name_of_clean : (kind : Kind) (strict : Bool) (e : RawEntryView) → IsCleanEntry kind strict e → IsEntryName e.name
entry_name_of_clean kind strict e is = record { filled = is.filled; one_name = slash_free_of_clean e is.messages }

-- an entry without a message is safe
pub safe_of_clean : (kind : Kind) (strict : Bool) (e : RawEntryView) → IsCleanEntry kind strict e
    → IsSafeEntry strict (decoded_view kind e)
safe_of_clean kind strict e is = record {
  no_repository = λ has. is.messages message.HasDotgit (inr (inl (inr (inr (inr (refl, has))))));
  no_directory = λ same. is.messages message.HasDot (inr (inl (inr (inl (refl, same)))));
  no_parent = λ same. is.messages message.HasDotdot (inr (inl (inr (inr (inl (refl, same))))));
  some = λ null. is.messages message.NullSha1
      (inr (inr (inl (refl, (let P : List ℕ → Type 0 = All (λ (byte : ℕ). byte ≡ 0) in subst P (id_from_bytes kind e.id) null)))));
  mode = git_mode_of_clean strict e is.mode;
}

-- the first digit of a mode without a message isn't 0
pub first_digit_of_clean : (e : RawEntryView) → ((it : Message) → ¬ HasEntryMessage e it) → e.first_digit ≢ 48
first_digit_of_clean e none = λ same. none message.ZeroPaddedFilemode (inr (inr (inr (refl, same))))

-- ---- all entries

pub none_has_message : (entries : List RawEntryView) → ((it : Message) → ¬ HasEntry (λ e. HasEntryMessage e it) entries)
    → AllByRecursion (λ (e : RawEntryView). (it : Message) → ¬ HasEntryMessage e it) entries
none_has_message [] none = tt
none_has_message (e ∷ entries) none = (
  λ (it : Message) (has : HasEntryMessage e it). none it (inl has),
  none_has_message entries (λ (it : Message) (has : HasEntry (λ e. HasEntryMessage e it) entries). none it (inr has)),
)

pub none_has_bad_mode : (strict : Bool) (entries : List RawEntryView) → ¬ HasEntry (HasBadMode strict) entries
    → AllByRecursion (λ (e : RawEntryView). ¬ HasBadMode strict e) entries
none_has_bad_mode strict [] none = tt
none_has_bad_mode strict (e ∷ entries) none = (
  λ (has : HasBadMode strict e). none (inl has),
  none_has_bad_mode strict entries (λ (has : HasEntry (HasBadMode strict) entries). none (inr has)),
)

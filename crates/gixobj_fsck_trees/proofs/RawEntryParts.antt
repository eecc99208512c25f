-- When an input begins with no entry, by its parts.
use Rattle.std.proofs.Common.{◌≡◌, ◌⊎◌, ◌<◌, ℕ, List, [], ◌∷◌, ◌++◌, ◌∙◌, ap, arith, inl, inr, length, length-append, refl, subst, sym}
use Rattle.std.specs.Str.Parse.{IsNumeral}
use Rattle.gixobj_hash.proofs.Splits.{no_split_of_byte_free, split_parts_unique}
use Rattle.gixobj_hash.specs.ByteStrings.{IsByteFree, SplitsAt}
use Rattle.gixobj_hash.specs.Hash.{hash_len}
use Rattle.gixobj_hash.specs.declared.hash.kind.Kind.{Kind}
use Rattle.gixobj_tree_entries.proofs.EncodedModes.{octal_digits_space_free}
use Rattle.gixobj_fsck_trees.specs.RawEntries.{BeginsWithNoRawEntry, BeginsWithRawEntry, RawEntryView}

-- the bytes after the digits and their space
abbrev pub after_digits : RawEntryView → List ℕ → List ℕ
after_digits e rest = e.name ++ 0 ∷ (e.id ++ rest)

pub no_entry_of_space_free : (kind : Kind) (input : List ℕ) → IsByteFree 32 input → BeginsWithNoRawEntry kind input
no_entry_of_space_free kind input free e rest begins =
    no_split_of_byte_free 32 begins.digits (after_digits e rest) (let P : List ℕ → Type 0 = IsByteFree 32 in subst P begins.joined free)

digits_unique : (kind : Kind) (input digits from_name : List ℕ) (e : RawEntryView) (rest : List ℕ) → SplitsAt 32 input digits from_name
    → (begins : BeginsWithRawEntry kind input e rest) → (begins.digits ≡ digits) × (after_digits e rest ≡ from_name)
digits_unique kind input digits from_name e rest splits begins =
    split_parts_unique 32 begins.digits (after_digits e rest) digits from_name (octal_digits_space_free begins.digits begins.octal.1) splits.first
    (sym begins.joined ∙ splits.joined)

pub no_entry_of_digits : (kind : Kind) (input digits from_name : List ℕ) → SplitsAt 32 input digits from_name → (¬ IsNumeral 8 digits)
    → BeginsWithNoRawEntry kind input
no_entry_of_digits kind input digits from_name splits other e rest begins =
    let same = digits_unique kind input digits from_name e rest splits begins in
    other (let P : List ℕ → Type 0 = λ it. IsNumeral 8 it in subst P same.0 begins.octal)

pub no_entry_of_zero_free : (kind : Kind) (input digits from_name : List ℕ) → SplitsAt 32 input digits from_name → IsByteFree 0 from_name
    → BeginsWithNoRawEntry kind input
no_entry_of_zero_free kind input digits from_name splits free e rest begins =
    let same = digits_unique kind input digits from_name e rest splits begins in
    no_split_of_byte_free 0 e.name (e.id ++ rest) (let P : List ℕ → Type 0 = IsByteFree 0 in subst P (sym same.1) free)

pub no_entry_of_name : (kind : Kind) (input digits from_name name from_id : List ℕ) → SplitsAt 32 input digits from_name
    → SplitsAt 0 from_name name from_id → (name ≡ []) ⊎ (length from_id < hash_len kind) → BeginsWithNoRawEntry kind input
no_entry_of_name kind input digits from_name name from_id splits names (inl empty) e rest begins =
    let same = digits_unique kind input digits from_name e rest splits begins in
    let parts = split_parts_unique 0 e.name (e.id ++ rest) name from_id begins.name names.first (same.1 ∙ names.joined) in
    begins.filled (parts.0 ∙ empty)
no_entry_of_name kind input digits from_name name from_id splits names (inr short) e rest begins =
    let same = digits_unique kind input digits from_name e rest splits begins in
    let parts = split_parts_unique 0 e.name (e.id ++ rest) name from_id begins.name names.first (same.1 ∙ names.joined) in
    let len : length e.id ≡ hash_len kind = begins.id in
    let longer : length from_id ≡ length (e.id ++ rest) = ap (λ (it : List ℕ). length it) (sym parts.1) in
    omega (arith, len, longer, short, length-append e.id rest)

pub nil_of_len : (bytes : List ℕ) → length bytes ≡ 0 → bytes ≡ []
nil_of_len [] len = refl
nil_of_len (byte ∷ bytes) len = absurd (omega (arith, len))

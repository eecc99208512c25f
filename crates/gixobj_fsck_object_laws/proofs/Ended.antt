-- In an object with a sound header each line that begins ends in a newline.
use Rattle.std.proofs.Common.{◌≡◌, ◌≢◌, ◌⊎◌, ◌+◌, ◌∙◌, ℕ, zero, suc, add-one, List, [], ◌∷◌, ◌++◌, Ok, get_or, inl, inr, refl, sym, ap, subst}
use Rattle.std.proofs.Common.{append_assoc, arith}
use Rattle.std.proofs.lemmas.List.Elements.{All-cons, All-head, All-nil, All-tail, All-append}
use Rattle.std.proofs.lemmas.Bool.Decides.{eqb_tells}
use Rattle.gixobj_hash.specs.ByteStrings.{IsByteFree, SplitsAt}
use Rattle.gixobj_hash.specs.FieldFormat.{encode_field}
use Rattle.gixobj_hash.specs.HeaderFormat.{BeginsWithField, BeginsWithNoField}
use Rattle.gixobj_parse.proofs.HeaderFields.{has_field_of_parts}
use Rattle.gixobj_fsck.specs.Headers.{EndsInNewline, HasEmptyLine, HeaderPart}
use Rattle.gixobj_fsck.specs.Lines.{BeginsWithName}

-- ---- the first newline

first_newline : (bytes : List ℕ) → IsByteFree 10 bytes ⊎ ((line rest : List ℕ) × SplitsAt 10 bytes line rest)
first_newline [] = inl (All-nil (λ it. it ≢ 10))
first_newline (byte ∷ bytes) = elim (eqb_tells byte 10) [
  | inl here ↦ inr ([], bytes, record { joined = ap (λ (it : ℕ). it ∷ bytes) here.1; first = All-nil (λ it. it ≢ 10) })
  | inr other ↦ elim (first_newline bytes) [
    | inl free ↦ inl (All-cons (λ it. it ≢ 10) byte bytes other.1 free)
    | inr split ↦ inr (
      byte ∷ split.0,
      split.1,
      record {
        joined = ap (λ (it : List ℕ). byte ∷ it) split.2.joined;
        first = All-cons (λ it. it ≢ 10) byte split.0 other.1 split.2.first;
      },
    )
  ]
]

-- a line without a newline has no newline after its name
free_of_no_field : (name input more : List ℕ) → input ≡ name ++ 32 ∷ more → BeginsWithNoField name input → IsByteFree 10 more
free_of_no_field name input more begins none = elim (first_newline more) [
  | inl free ↦ free
  | inr split ↦ absurd (none split.0 split.1 (has_field_of_parts name input more split.0 split.1 begins split.2))
]

-- ---- bytes after a newline

free_at : (bytes : List ℕ) (position : ℕ) → IsByteFree 10 bytes → get_or bytes position 0 ≢ 10
free_at [] position free same = omega (arith, same)
free_at (byte ∷ bytes) zero free same = All-head (λ it. it ≢ 10) byte bytes free same
free_at (byte ∷ bytes) (suc position) free same = free_at bytes position (All-tail (λ it. it ≢ 10) byte bytes free) same

-- the bytes have no empty line, don't begin with a newline and don't end in one
pub record IsUnended (bytes : List ℕ) : Type 0 where
  pub no_empty_line : ¬ HasEmptyLine bytes
  pub no_newline_first : get_or bytes 0 0 ≢ 10
  pub no_newline_last : ¬ EndsInNewline bytes
  pub some : bytes ≢ []

unended_of_free : (bytes : List ℕ) → IsByteFree 10 bytes → bytes ≢ [] → IsUnended bytes
unended_of_free bytes free some = record {
  no_empty_line = λ (has : HasEmptyLine bytes). free_at bytes has.0 free has.1.0;
  no_newline_first = free_at bytes 0 free;
  no_newline_last = λ (ends : EndsInNewline bytes). free_at bytes ends.0 free ends.2;
  some = some;
}

-- the byte after a later position
later : (byte : ℕ) (bytes : List ℕ) (position : ℕ) → get_or (byte ∷ bytes) (suc position + 1) 0 ≡ 10 → get_or bytes (position + 1) 0 ≡ 10
later byte bytes position is =
    ap (λ (n : ℕ). get_or bytes n 0) (add-one position) ∙ (ap (λ (n : ℕ). get_or (byte ∷ bytes) n 0) (sym (add-one (suc position))) ∙ is)

not_empty_last : (byte : ℕ) (bytes : List ℕ) → bytes ≢ [] → (¬ EndsInNewline bytes) → ¬ EndsInNewline (byte ∷ bytes)
not_empty_last byte [] some none ends = some refl
not_empty_last byte (next ∷ bytes) some none (zero, last, is) = omega (arith, last)
not_empty_last byte (next ∷ bytes) some none (suc position, last, is) = none (position, omega (arith, last), is)

-- a byte before bytes that have no end
unended_cons : (byte : ℕ) (bytes : List ℕ) → byte ≢ 10 → (¬ HasEmptyLine bytes) → (¬ EndsInNewline bytes) → bytes ≢ [] → IsUnended (byte ∷ bytes)
unended_cons byte bytes other empty last some = record {
  no_empty_line = go;
  no_newline_first = other;
  no_newline_last = not_empty_last byte bytes some last;
  some = λ (none : byte ∷ bytes ≡ []). cc none;
}
  where
    go : ¬ HasEmptyLine (byte ∷ bytes)
    go (zero, both) = other both.0
    go (suc position, both) = empty (position, (both.0, later byte bytes position both.1))

-- a newline before bytes that have no end
empty_line_after_newline : (bytes : List ℕ) → IsUnended bytes → ¬ HasEmptyLine (10 ∷ bytes)
empty_line_after_newline bytes it (zero, both) = it.no_newline_first both.1
empty_line_after_newline bytes it (suc position, both) = it.no_empty_line (position, (both.0, later 10 bytes position both.1))

-- a line before bytes that have no end
unended_line : (byte : ℕ) (line bytes : List ℕ) → IsByteFree 10 (byte ∷ line) → IsUnended bytes → IsUnended (byte ∷ (line ++ 10 ∷ bytes))
unended_line byte [] bytes free it =
    unended_cons byte (10 ∷ bytes) (All-head (λ it. it ≢ 10) byte [] free) (empty_line_after_newline bytes it)
    (not_empty_last 10 bytes it.some it.no_newline_last) (λ (none : 10 ∷ bytes ≡ []). cc none)
unended_line byte (next ∷ line) bytes free it =
    let more = unended_line next line bytes (All-tail (λ it. it ≢ 10) byte (next ∷ line) free) it in
    unended_cons byte (next ∷ (line ++ 10 ∷ bytes)) (All-head (λ it. it ≢ 10) byte (next ∷ line) free) more.no_empty_line more.no_newline_last more.some

-- a field before bytes that have no end
pub unended_field : (byte : ℕ) (name input value rest : List ℕ) → IsByteFree 10 (byte ∷ name) → BeginsWithField (byte ∷ name) input value rest
    → IsUnended rest → IsUnended input
unended_field byte name input value rest free field it =
    let named : IsByteFree 10 (byte ∷ (name ++ 32 ∷ value)) =
    All-cons (λ it. it ≢ 10) byte (name ++ 32 ∷ value) (All-head (λ it. it ≢ 10) byte name free)
    (All-append (λ it. it ≢ 10) name (32 ∷ value) (All-tail (λ it. it ≢ 10) byte name free)
    (All-cons (λ it. it ≢ 10) 32 value (λ same. omega (arith, same)) field.one_line)) in
    subst IsUnended (sym (field.joined ∙ shuffle name)) (unended_line byte (name ++ 32 ∷ value) rest named it)
  where
    shuffle : (name : List ℕ) → encode_field (byte ∷ name) value ++ rest ≡ byte ∷ ((name ++ 32 ∷ value) ++ 10 ∷ rest)
    shuffle name = simp append_assoc

-- a line without a newline has no end
pub unended_last : (byte : ℕ) (name input : List ℕ) → IsByteFree 10 (byte ∷ name) → BeginsWithName (byte ∷ name) input
    → BeginsWithNoField (byte ∷ name) input → IsUnended input
unended_last byte name input free begins none =
    let more = free_of_no_field (byte ∷ name) input begins.0 begins.1 none in
    let all : IsByteFree 10 ((byte ∷ name) ++ 32 ∷ begins.0) = All-append (λ it. it ≢ 10) (byte ∷ name) (32 ∷ begins.0) free
    (All-cons (λ it. it ≢ 10) 32 begins.0 (λ same. omega (arith, same)) more) in
    subst IsUnended (sym begins.1) (unended_of_free ((byte ∷ name) ++ 32 ∷ begins.0) all (λ (none : (byte ∷ name) ++ 32 ∷ begins.0 ≡ []). cc none))

-- the header of bytes without an end isn't sound
pub no_sound_header : (input rest : List ℕ) → HeaderPart input (Ok rest) → IsUnended input → ⊥
no_sound_header input rest header it = header.1 (it.no_empty_line, it.no_newline_last)

-- What git's parser takes has one form.
use Rattle.std.proofs.Common.{◌≡◌, ◌≢◌, ◌+◌, ◌*◌, ◌<◌, ◌∷◌, [], ℕ, List, inl, inr, refl, sym, subst, ◌∙◌, length, arith}
use Rattle.std.specs.Prelude.{codes}
use Rattle.std.proofs.lemmas.Bool.{cases_lt}
use Rattle.gixobj_hash.specs.ByteStrings.{IsByteFree}
use Rattle.gixobj_hash.specs.Hash.{hash_len}
use Rattle.gixobj_hash.specs.HeaderFormat.{BeginsWithField}
use Rattle.gixobj_hash.specs.declared.hash.kind.Kind.{Kind}
use Rattle.gixobj_hash.proofs.Splits.{no_split_of_byte_free, splits_at_unique}
use Rattle.gixobj_parse.specs.HeaderReading.{BeginsWithIdField}
use Rattle.gixobj_parse.proofs.HeaderFields.{field_unique}
use Rattle.gixobj_fsck.specs.Lines.{BeginsWithName}
use Rattle.gixobj_fsck_findings.specs.Parser.{AreParsedParents, IsBeforeZero, IsParsedCommit, IsParsedTag, NamesKind, next_parent, other_line, short_rest}

-- a list of length 0 is empty
pub empty_of_length : (bytes : List ℕ) → length bytes ≡ 0 → bytes ≡ []
empty_of_length [] none = refl
empty_of_length (byte ∷ bytes) none = absurd (omega (arith, none))

-- an empty list has length 0
pub filled_of_length : (bytes : List ℕ) → length bytes ≢ 0 → bytes ≢ []
filled_of_length [] some same = some refl
filled_of_length (byte ∷ bytes) some same = cc same

-- what doesn't begin with a line of a parent ends the parents
pub parents_end : (kind : Kind) (input : List ℕ) → ((2 * hash_len kind + 7 < length input) × BeginsWithName (codes "parent") input → ⊥)
    → AreParsedParents kind input
parents_end kind input none = elim (cases_lt (2 * hash_len kind + 7) (length input)) [
  | inl long ↦ other_line input (λ rest joined. none (long, (rest, joined)))
  | inr short ↦ short_rest input short
]

-- a line of a parent has an id, and more follows
pub parsed_parent : (kind : Kind) (input : List ℕ) → AreParsedParents kind input → 2 * hash_len kind + 7 < length input
    → BeginsWithName (codes "parent") input
    → (hex rest : List ℕ) × BeginsWithIdField (codes "parent") kind input hex rest × (rest ≢ []) × AreParsedParents kind rest
parsed_parent kind input (short_rest _ short) long named = absurd (omega (arith, short, long))
parsed_parent kind input (other_line _ other) long named = absurd (other named.0 named.1)
parsed_parent kind input (next_parent _ hex rest field filled parsed) long named = (hex, rest, field, filled, parsed)

-- the same of a line whose rest is known
pub parsed_rest : (kind : Kind) (input hex rest : List ℕ) → AreParsedParents kind input → 2 * hash_len kind + 7 < length input
    → BeginsWithName (codes "parent") input → BeginsWithIdField (codes "parent") kind input hex rest → (rest ≢ []) × AreParsedParents kind rest
parsed_rest kind input hex rest parsed long named field =
    let p = parsed_parent kind input parsed long named in
    let same = (field_unique (codes "parent") input p.0 p.1 hex rest p.2.0 field.0).1 in (
      subst (λ (i : List ℕ). i ≢ []) same p.3,
      subst (λ (i : List ℕ). AreParsedParents kind i) same p.4,
    )

-- the parents of a commit whose tree is known
pub commit_rest : (kind : Kind) (commit hex rest : List ℕ) → IsParsedCommit kind commit → BeginsWithIdField (codes "tree") kind commit hex rest
    → (rest ≢ []) × AreParsedParents kind rest
commit_rest kind commit hex rest parsed field =
    let same = (field_unique (codes "tree") commit parsed.hex parsed.rest hex rest parsed.tree.0 field.0).1 in (
      subst (λ (i : List ℕ). i ≢ []) same parsed.filled,
      subst (λ (i : List ℕ). AreParsedParents kind i) same parsed.parents,
    )

-- a value has one part before a zero byte
pub before_zero_unique : (value x y : List ℕ) → IsBeforeZero value x → IsBeforeZero value y → x ≡ y
before_zero_unique value x y (inl a) (inl b) = a.1 ∙ sym b.1
before_zero_unique value x y (inl a) (inr b) = absurd (no_split_of_byte_free 0 y b.0 (subst (IsByteFree 0) b.1.joined a.0))
before_zero_unique value x y (inr a) (inl b) = absurd (no_split_of_byte_free 0 x a.0 (subst (IsByteFree 0) a.1.joined b.0))
before_zero_unique value x y (inr a) (inr b) = (splits_at_unique 0 value x a.0 y b.0 a.1 b.1).0

-- the type of a tag whose object is known
pub tag_type : (kind : Kind) (tag hex start : List ℕ) → IsParsedTag kind tag → BeginsWithIdField (codes "object") kind tag hex start
    → (value end name rest : List ℕ) × BeginsWithField (codes "type") start value end × (length value < 20) × NamesKind value
    × BeginsWithField (codes "tag") end name rest
tag_type kind tag hex start parsed field =
    let same = (field_unique (codes "object") tag parsed.hex parsed.start hex start parsed.object.0 field.0).1 in (
      parsed.value,
      parsed.end,
      parsed.name,
      parsed.rest,
      subst (λ (i : List ℕ). BeginsWithField (codes "type") i parsed.value parsed.end) same parsed.type_line,
      parsed.short,
      parsed.known,
      parsed.named,
    )

-- the name of a tag whose type is known
pub tag_name : (kind : Kind) (tag hex start value end : List ℕ) → IsParsedTag kind tag → BeginsWithIdField (codes "object") kind tag hex start
    → BeginsWithField (codes "type") start value end
    → (length value < 20) × NamesKind value × ((name rest : List ℕ) × BeginsWithField (codes "tag") end name rest)
tag_name kind tag hex start value end parsed object field =
    let t = tag_type kind tag hex start parsed object in
    let same = field_unique (codes "type") start t.0 t.1 value end t.4 field in (
      subst (λ (i : List ℕ). length i < 20) same.0 t.5,
      subst (λ (i : List ℕ). NamesKind i) same.0 t.6,
      (t.2, t.3, subst (λ (i : List ℕ). BeginsWithField (codes "tag") i t.2 t.3) same.1 t.7),
    )

-- The entries of a tree as git-fsck reads them: a mode may have any number of digits (gitdatamodel, "trees").
use Rattle.std.specs.Prelude.{◌≡◌, ◌≢◌, ◌⊎◌, ◌++◌, ◌+◌, ◌-◌, ◌%◌, ◌^◌, ◌<◌, ℕ, Bool, true, false, List, [], ◌∷◌, length}
use Rattle.std.specs.Prelude.{slice_index}
use Rattle.std.specs.Str.Parse.{IsNumeral, digits_value}
use Rattle.gixobj_hash.specs.ByteStrings.{IsByteFree}
use Rattle.gixobj_hash.specs.Bytes.{space}
use Rattle.gixobj_hash.specs.Hash.{hash_len}
use Rattle.gixobj_hash.specs.Runs as runs
use Rattle.gixobj_hash.specs.Runs.{Ending, broken, complete}
use Rattle.gixobj_hash.specs.declared.hash.kind.Kind.{Kind}

-- an entry: the number of its mode in 16 bits, the first digit of the mode, its name, the bytes of its id, and its
-- offsets in the tree, of its first byte and after its last one
pub record RawEntryView : Type 0 where
  pub mode : ℕ
  pub first_digit : ℕ
  pub name : List ℕ
  pub id : List ℕ
  pub offset : ℕ
  pub end : ℕ

-- the input begins with this entry, and the rest follows: octal digits, a space, a name that has a byte, a zero byte,
-- and an id
pub record BeginsWithRawEntry (kind : Kind) (input : List ℕ) (e : RawEntryView) (rest : List ℕ) : Type 0 where
  pub digits : List ℕ
  pub joined : input ≡ digits ++ space ∷ (e.name ++ 0 ∷ (e.id ++ rest))
  pub octal : IsNumeral 8 digits
  pub mode : e.mode ≡ digits_value 8 digits % 2 ^ 16
  pub first : e.first_digit ≡ slice_index digits 0
  pub name : IsByteFree 0 e.name
  pub filled : e.name ≢ []
  pub id : length e.id ≡ hash_len kind

-- the input does not begin with an entry
abbrev pub BeginsWithNoRawEntry : Kind → List ℕ → Type 0
BeginsWithNoRawEntry kind input = (e : RawEntryView) (rest : List ℕ) → ¬ BeginsWithRawEntry kind input e rest

-- the input begins with some entry
abbrev pub BeginsWithSomeRawEntry : Kind → List ℕ → Type 0
BeginsWithSomeRawEntry kind input = (e : RawEntryView) × (rest : List ℕ) × BeginsWithRawEntry kind input e rest

-- one entry at the beginning of the input, which has this offset in the tree; the rest has the next offset
abbrev pub RawEntryStep : Kind → ℕ → List ℕ → RawEntryView → ℕ → List ℕ → Type 0
RawEntryStep kind offset input e next rest = BeginsWithRawEntry kind input e rest
    × (e.offset ≡ offset) × (e.end ≡ next) × (next + length rest ≡ offset + length input)

-- the bytes are these entries one by one, up to their end, or to a rest that does not begin with an entry
abbrev pub YieldsRawEntries : Kind → List ℕ → List RawEntryView → Ending → Type 0
YieldsRawEntries kind bytes entries ending = runs.Yields (RawEntryStep kind) 0 bytes entries ending

-- the byte before the last ones, which may be an id, is zero, as in each tree that has an entry
abbrev pub EndsWithId : Kind → List ℕ → Type 0
EndsWithId kind bytes = (hash_len kind < length bytes) × (slice_index bytes (length bytes - hash_len kind - 1) ≡ 0)

-- the ending of bytes of which no entry is read
abbrev pub unread_ending : List ℕ → Ending
unread_ending [] = complete
unread_ending (byte ∷ bytes) = broken

-- the ending of bytes that are broken or not
abbrev pub ending_of : Bool → Ending
ending_of true = broken
ending_of false = complete

-- the offset after these entries, of which the first has this offset
abbrev pub end_after : ℕ → List RawEntryView → ℕ
end_after offset [] = offset
end_after offset (e ∷ entries) = end_after (e.end) entries

-- the offset where reading a tree of these entries ends
abbrev pub end_of : List RawEntryView → ℕ
end_of entries = end_after 0 entries

-- git reads these entries of a tree: those at its beginning, or none if the bytes do not end with an id
abbrev pub ReadsTree : Kind → List ℕ → List RawEntryView → Ending → Type 0
ReadsTree kind bytes entries ending = (EndsWithId kind bytes × YieldsRawEntries kind bytes entries ending)
    ⊎ ((¬ EndsWithId kind bytes) × (entries ≡ []) × (ending ≡ unread_ending bytes))
